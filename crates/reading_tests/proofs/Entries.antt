-- As many entries as due ones, each with its name and its type, are the due entries.
use Rattle.std.proofs.Common.{◌≡◌, ℕ, Bool, true, false, ◌&&◌, List, [], ◌∷◌, map, zip, length, refl, ap₂, arith, Bor}
use Rattle.std.specs.List.{list_all}
use Rattle.std.specs.Cmp.Lexicographic.{bytes_decides}
use Rattle.up_text.specs.Names.{same_name}
use Rattle.up_tree.specs.declared.term.Typed.{Typed}
use Rattle.reading_tests.specs.Looks.{entry, is_entry}

left : (a b : Bool) → (a && b) ≡ true → a ≡ true
left true b h = refl
left false b h = h

right : (a b : Bool) → (a && b) ≡ true → b ≡ true
right true b h = h
right false b h = cc

is_due : (typed : Typed) (due : Bor (List ℕ) × Bor (List ℕ)) → is_entry typed due ≡ true → typed ≡ entry due
is_due typed due is =
    let one : typed.name ≡ due.0.now = (bytes_decides typed.name due.0.now).0 (left _ (same_name typed.of due.1.now) is) in
    let two : typed.of ≡ due.1.now = (bytes_decides typed.of due.1.now).0 (right (same_name typed.name due.0.now) _ is) in
    rw (← one, ← two) refl

has_due : (due : Bor (List ℕ) × Bor (List ℕ)) → is_entry (entry due) due ≡ true
has_due due = rw ((bytes_decides due.0.now due.0.now).1 refl, (bytes_decides due.1.now due.1.now).1 refl) refl

pub are_due : (entries : List Typed) (due : List (Bor (List ℕ) × Bor (List ℕ))) → length entries ≡ length due
    → list_all (λ (typed, due). is_entry typed due) (zip entries due) ≡ true → entries ≡ map entry due
are_due [] [] long all = refl
are_due [] (d ∷ due) long all = absurd (omega arith)
are_due (t ∷ entries) [] long all = absurd (omega arith)
are_due (t ∷ entries) (d ∷ due) long all =
    ap₂ ◌∷◌ (is_due t d (left _ _ all)) (are_due entries due (omega arith) (right (is_entry t d) _ all))

pub due_pass : (due : List (Bor (List ℕ) × Bor (List ℕ))) → list_all (λ (typed, due). is_entry typed due) (zip (map entry due) due) ≡ true
due_pass [] = refl
due_pass (d ∷ due) = rw (has_due d) (due_pass due)
