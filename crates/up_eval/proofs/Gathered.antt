-- The changes of each term, gathered one by one.
use Rattle.std.proofs.Common.{◌≡◌, ◌⊎◌, ℕ, zero, suc, ◌+◌, ◌<◌, ◌≤◌, arith, Bool, true, false, true≢false, cond, List, [], ◌∷◌, ◌++◌, map, filter, take, get_or, length, Option, Some, None, IsSomeAnd, option_map, refl, ap, sym, ◌∙◌, subst, inl, inr}
use Rattle.std.specs.Prelude.{◌≢◌, unwrap_or}
use Rattle.std.specs.Ordering.{is_eq}
use Rattle.std.specs.Cmp.{tied_itself}
use Rattle.std.specs.FinMap as table
use Rattle.std.proofs.lemmas.List.{map-append, take_more}
use Rattle.std.proofs.lemmas.List.Elements.{filter-append}
use Rattle.up_frac.specs.Fraction.{Fraction, IsBig}
use Rattle.up_text.specs.declared.name.Name.{Name}
use Rattle.up_text.specs.Lists.{Every, Somewhere}
use Rattle.up_tree.specs.declared.action.Change.{Change}
use Rattle.up_tree.specs.declared.action.Change.TheVariants.{Assign, Increase, Decrease, ScaleUp, ScaleDown}
use Rattle.up_tree.specs.State.{State, Ground, ground_cmp, number_at}
use Rattle.up_tree.specs.Changes.{NumberChange, ObjectChange, is_at, changes_at, objects_at, shift, shifted, new_number}
use Rattle.up_tree.specs.Faults.{IsShift}
use Rattle.up_tree.specs.Big.{IsBigNumber}
use Rattle.up_tree.proofs.States.{ground_total}
use Rattle.up_eval.specs.declared.changes.NumberChange.{NumberChange as MadeChange}
use Rattle.up_eval.specs.declared.changes.ObjectChange.{ObjectChange as FoundObject}
use Rattle.up_eval.specs.declared.gathering.Gathered.{Gathered}
use Rattle.up_eval.specs.declared.step_error.Why.TheVariants as why
use Rattle.up_eval.specs.declared.stop.Stop.{Stop}
use Rattle.up_eval.specs.declared.stop.Stop.TheVariants as stop
use Rattle.up_eval.specs.Numbers.{sum_of, difference_of}
use Rattle.up_eval.specs.Effects.{number_meant, object_meant}
use Rattle.up_eval.specs.Gathering.{is_shift, first_number, more_shifts, gathered_next, gathered_after, gathered_of, gathered_value, IsGatheredStop, IsMixed, AreGathered, GathersMore, StopsAt, new_numbers, settled_numbers, first_value, AreUnanimous, AreFirst, TwoDiffer, FirstOfMore, DiffersFrom}
use Rattle.up_eval.proofs.Initial.{tied, each}
use Rattle.up_eval.proofs.Fired.{append_nil}
use Rattle.up_eval.proofs.OfEffects.{every_push}

-- ---- lists

some_within : {X : Type 0} (P : X → Type 0) (xs : List X) (x : X) (ys : List X) → P x → Somewhere P (xs ++ x ∷ ys)
some_within P [] x ys h = inl h
some_within P (y ∷ xs) x ys h = inr (some_within P xs x ys h)

some_push : {X : Type 0} (P : X → Type 0) (xs : List X) (x : X) → Somewhere P (xs ++ x ∷ []) → Somewhere P xs ⊎ P x
some_push P [] x (inl h) = inr h
some_push P [] x (inr h) = absurd h
some_push P (y ∷ xs) x (inl h) = inl (inl h)
some_push P (y ∷ xs) x (inr h) = by (some_push P xs x h)
  where
    by : Somewhere P xs ⊎ P x → Somewhere P (y ∷ xs) ⊎ P x
    by (inl k) = inl (inr k)
    by (inr k) = inr k

some_length : {X : Type 0} (P : X → Type 0) (xs : List X) → Somewhere P xs → 1 ≤ length xs
some_length P [] h = absurd h
some_length P (x ∷ xs) h = omega arith

take_through : {X : Type 0} (xs : List X) (x : X) (ys : List X) → take (suc (length xs)) (xs ++ x ∷ ys) ≡ xs ++ x ∷ []
take_through [] x ys = refl
take_through (y ∷ xs) x ys = ap (λ zs. y ∷ zs) (take_through xs x ys)

pick : {X : Type 0} (P Q : X → Type 0) (xs : List X) → Every P xs → Somewhere Q xs → (x : X) × P x × Q x
pick P Q [] all h = absurd h
pick P Q (x ∷ xs) all (inl h) = (x, all.0, h)
pick P Q (x ∷ xs) all (inr h) = pick P Q xs all.1 h

passed : {X : Type 0} (p : X → Bool) (P : X → Type 0) (xs : List X) → Somewhere P (filter p xs) → Somewhere (λ x. (p x ≡ true) × P x) xs
passed p P [] h = absurd h
passed p P (x ∷ xs) h = by (p x) refl (passed p P xs) h
  where
    by : (b : Bool) → p x ≡ b → (Somewhere P (filter p xs) → Somewhere (λ x. (p x ≡ true) × P x) xs)
        → Somewhere P (cond b (x ∷ filter p xs) (filter p xs)) → Somewhere (λ x. (p x ≡ true) × P x) (x ∷ xs)
    by true is rest (inl h) = inl (is, h)
    by true is rest (inr h) = inr (rest h)
    by false is rest h = inr (rest h)

-- ---- the changes of one term

own : (q : Ground) → is_at q q ≡ true
own q = ap is_eq (tied_itself ground_total q)

module _ {C : Type 0} (key : C → Ground) where
  abbrev of_term : Ground → List C → List C
  of_term t cs = filter (λ c. is_at t (key c)) cs

  of_own : (before : List C) (c : C) (behind : List C) → of_term (key c) (before ++ c ∷ behind) ≡ of_term (key c) before ++ c ∷ of_term (key c) behind
  of_own before c behind =
      filter-append (λ d. is_at (key c) (key d)) before (c ∷ behind)
      ∙ ap (λ b. of_term (key c) before ++ cond b (c ∷ of_term (key c) behind) (of_term (key c) behind)) (own (key c))

  of_other : (t : Ground) (before : List C) (c : C) → is_at t (key c) ≡ false → of_term t (before ++ c ∷ []) ≡ of_term t before
  of_other t before c is =
      filter-append (λ d. is_at t (key d)) before (c ∷ []) ∙ ap (λ b. of_term t before ++ cond b (c ∷ []) []) is ∙ append_nil (of_term t before)

  -- what holds of the changes of each term, after one more
  at_each : (P : Ground → List C → Type 0) (before : List C) (c : C) → P (key c) (of_term (key c) before ++ c ∷ [])
      → ((t : Ground) → is_at t (key c) ≡ false → P t (of_term t before)) → (t : Ground) → P t (of_term t (before ++ c ∷ []))
  at_each P before c here others t = by (is_at t (key c)) refl
    where
      by : (b : Bool) → is_at t (key c) ≡ b → P t (of_term t (before ++ c ∷ []))
      by true is = subst (λ u. P u (of_term u (before ++ c ∷ []))) (sym (tied t (key c) is)) (subst (P (key c)) (sym (of_own before c [])) here)
      by false is = subst (P t) (sym (of_other t before c is)) (others t is)

-- ---- numbers

shifts : (c : Change) → is_shift c ≡ true → IsShift c
shifts Increase e = tt
shifts Decrease e = tt
shifts Assign e = absurd (true≢false (sym e))
shifts ScaleUp e = absurd (true≢false (sym e))
shifts ScaleDown e = absurd (true≢false (sym e))

no_shift : (c : Change) → is_shift c ≡ false → ¬ IsShift c
no_shift Increase e h = true≢false e
no_shift Decrease e h = true≢false e
no_shift Assign e h = h
no_shift ScaleUp e h = h
no_shift ScaleDown e h = h

abbrev change_at : Ground → Change → Fraction → NumberChange
change_at t k x = record { target = t; change = k; operand = x }

first_at : (old : Option Fraction) (t : Ground) (k : Change) (x : Fraction) → new_number old (change_at t k x ∷ []) ≡ first_number k x old
first_at old t Assign x = refl
first_at None t Increase x = refl
first_at (Some o) t Increase x = refl
first_at None t Decrease x = refl
first_at (Some o) t Decrease x = refl
first_at None t ScaleUp x = refl
first_at (Some o) t ScaleUp x = refl
first_at None t ScaleDown x = refl
first_at (Some o) t ScaleDown x = refl

shifted-push : (cs : List NumberChange) (c : NumberChange) (x : Fraction) → shifted (cs ++ c ∷ []) x ≡ shift c.change c.operand (shifted cs x)
shifted-push [] c x = refl
shifted-push (d ∷ cs) c x = shifted-push cs c (shift d.change d.operand x)

-- the number after increases and decreases
shifts_at : (old : Option Fraction) (t : Ground) (k : Change) (x : Fraction) (more : List NumberChange) → IsShift k
    → new_number old (change_at t k x ∷ more) ≡ option_map (shifted (change_at t k x ∷ more)) old
shifts_at old t Increase x more h = refl
shifts_at old t Decrease x more h = refl
shifts_at old t Assign x more h = absurd h
shifts_at old t ScaleUp x more h = absurd h
shifts_at old t ScaleDown x more h = absurd h

shifts_of : (old : Option Fraction) (d : NumberChange) (more : List NumberChange) → IsShift d.change → new_number old (d ∷ more) ≡ option_map (shifted (d ∷ more)) old
shifts_of old d more h = shifts_at old d.target d.change d.operand more h

more_of : (old : Option Fraction) (d : NumberChange) (more : List NumberChange) (c : NumberChange) → IsShift d.change
    → new_number old (d ∷ more ++ c ∷ []) ≡ option_map (shift c.change c.operand) (new_number old (d ∷ more))
more_of old d more c h = shifts_of old d (more ++ c ∷ []) h ∙ by old ∙ ap (option_map (shift c.change c.operand)) (sym (shifts_of old d more h))
  where
    by : (old : Option Fraction) → option_map (shifted (d ∷ more ++ c ∷ [])) old ≡ option_map (shift c.change c.operand) (option_map (shifted (d ∷ more)) old)
    by None = refl
    by (Some o) = ap Some (shifted-push (d ∷ more) c o)

shift_up : (x : Fraction) (v : Option Fraction) → option_map (shift Increase x) v ≡ sum_of v (Some x)
shift_up x None = refl
shift_up x (Some o) = refl

shift_down : (x : Fraction) (v : Option Fraction) → option_map (shift Decrease x) v ≡ difference_of v (Some x)
shift_down x None = refl
shift_down x (Some o) = refl

some≢none : {X : Type 0} (x : X) → Some x ≡ None → ⊥
some≢none {X = X} x e = true≢false (ap is e)
  where
    is : Option X → Bool
    is None = false
    is (Some y) = true

-- one more is made only of increases and decreases
both_shift : (k : Change) (x : Fraction) (b : Bool) (v : Option Fraction) (g : Gathered) → gathered_next k x (record { shifts = b; value = v }) ≡ Some g → (b ≡ true) × IsShift k
both_shift Increase x true v g e = (refl, tt)
both_shift Increase x false v g e = absurd (some≢none g (sym e))
both_shift Decrease x true v g e = (refl, tt)
both_shift Decrease x false v g e = absurd (some≢none g (sym e))
both_shift Assign x b v g e = absurd (some≢none g (sym e))
both_shift ScaleUp x b v g e = absurd (some≢none g (sym e))
both_shift ScaleDown x b v g e = absurd (some≢none g (sym e))

-- and is none only where there is another
not_both : (k : Change) (x : Fraction) (b : Bool) (v : Option Fraction) → gathered_next k x (record { shifts = b; value = v }) ≡ None → (b ≡ false) ⊎ (is_shift k ≡ false)
not_both k x false v e = inl refl
not_both Increase x true v e = absurd (some≢none _ e)
not_both Decrease x true v e = absurd (some≢none _ e)
not_both Assign x true v e = inr refl
not_both ScaleUp x true v e = inr refl
not_both ScaleDown x true v e = inr refl

next_value : (k : Change) (x : Fraction) (b : Bool) (v : Option Fraction) → b ≡ true → IsShift k
    → gathered_next k x (record { shifts = b; value = v }) ≡ Some (record { shifts = b; value = option_map (shift k x) v })
next_value Increase x b v e h = ap (λ t. more_shifts t (sum_of v (Some x))) e ∙ (λ i. Some (record { shifts = sym e i; value = sym (shift_up x v) i }))
next_value Decrease x b v e h = ap (λ t. more_shifts t (difference_of v (Some x))) e ∙ (λ i. Some (record { shifts = sym e i; value = sym (shift_down x v) i }))
next_value Assign x b v e h = absurd h
next_value ScaleUp x b v e h = absurd h
next_value ScaleDown x b v e h = absurd h

module _ (old : Option Fraction) where
  next_is : (cs : List NumberChange) (c : NumberChange) (g : Gathered) → gathered_after old (gathered_of old cs) c ≡ Some g → gathered_of old (cs ++ c ∷ []) ≡ Some g
  next_is [] c g e = (λ i. Some (record { shifts = is_shift c.change; value = first_at old c.target c.change c.operand i })) ∙ e
  next_is (d ∷ more) c g e =
      let both : (is_shift d.change ≡ true) × IsShift c.change = both_shift c.change c.operand (is_shift d.change) (new_number old (d ∷ more)) g e in
      (λ i. Some (record { shifts = is_shift d.change; value = more_of old d more c (shifts d.change both.0) i }))
      ∙ sym (next_value c.change c.operand (is_shift d.change) (new_number old (d ∷ more)) both.0 both.1) ∙ e

  mixed_one : (c : NumberChange) → ¬ IsMixed (c ∷ [])
  mixed_one c m = let two : 2 ≤ 1 = m.0 in omega arith

  mixed_more : (d : NumberChange) (more : List NumberChange) (c : NumberChange) → ¬ IsMixed (d ∷ more) → IsShift d.change → IsShift c.change → ¬ IsMixed (d ∷ more ++ c ∷ [])
  mixed_more d more c apart first last m = by m.1
    where
      rest : Somewhere (λ c. ¬ IsShift c.change) more ⊎ (¬ IsShift c.change) → ⊥
      rest (inl h) = let some : 1 ≤ length more = some_length _ more h in apart ((omega arith), inr h)
      rest (inr h) = h last

      by : Somewhere (λ c. ¬ IsShift c.change) (d ∷ more ++ c ∷ []) → ⊥
      by (inl h) = h first
      by (inr h) = rest (some_push (λ c. ¬ IsShift c.change) more c h)

  next_apart : (cs : List NumberChange) (c : NumberChange) (g : Gathered) → gathered_after old (gathered_of old cs) c ≡ Some g → ¬ IsMixed cs → ¬ IsMixed (cs ++ c ∷ [])
  next_apart [] c g e apart = mixed_one c
  next_apart (d ∷ more) c g e apart =
      let both : (is_shift d.change ≡ true) × IsShift c.change = both_shift c.change c.operand (is_shift d.change) (new_number old (d ∷ more)) g e in
      mixed_more d more c apart (shifts d.change both.0) both.1

  next_mixed : (cs : List NumberChange) (c : NumberChange) (rest : List NumberChange) → gathered_after old (gathered_of old cs) c ≡ None → IsMixed (cs ++ c ∷ rest)
  next_mixed [] c rest e = absurd (some≢none _ e)
  next_mixed (d ∷ more) c rest e = (two more, by (not_both c.change c.operand (is_shift d.change) (new_number old (d ∷ more)) e))
    where
      two : (xs : List NumberChange) → 2 ≤ length (d ∷ xs ++ c ∷ rest)
      two [] = omega arith
      two (x ∷ xs) = omega arith

      by : (is_shift d.change ≡ false) ⊎ (is_shift c.change ≡ false) → Somewhere (λ c. ¬ IsShift c.change) (d ∷ more ++ c ∷ rest)
      by (inl h) = inl (no_shift d.change h)
      by (inr h) = inr (some_within _ more c rest (no_shift c.change h))

  -- a value past the bound, of changes of which these are the first
  abbrev BigTerm : List NumberChange → Type 0
  BigTerm changes = IsBigNumber (new_number old changes) ⊎ ((k : ℕ) × IsSomeAnd old (λ x. IsBig (shifted (take k changes) x)))

abbrev value_in : Option Gathered → Option Fraction
value_in None = None
value_in (Some g) = g.value

first_big : (old : Option Fraction) (t : Ground) (k : Change) (x : Fraction) (rest : List NumberChange) → IsBigNumber (first_number k x old) → BigTerm old (change_at t k x ∷ rest)
first_big old t Assign x rest h = inl h
first_big None t Increase x rest h = absurd h
first_big (Some o) t Increase x rest h = inr (1, h)
first_big None t Decrease x rest h = absurd h
first_big (Some o) t Decrease x rest h = inr (1, h)
first_big None t ScaleUp x rest h = absurd h
first_big (Some o) t ScaleUp x rest h = inl h
first_big None t ScaleDown x rest h = absurd h
first_big (Some o) t ScaleDown x rest h = inl h

part_big : (old : Option Fraction) (cs : List NumberChange) (c : NumberChange) (rest : List NumberChange) → IsBigNumber (option_map (shifted (cs ++ c ∷ [])) old) → BigTerm old (cs ++ c ∷ rest)
part_big None cs c rest h = absurd h
part_big (Some o) cs c rest h = inr (suc (length cs), subst (λ xs. IsBig (shifted xs o)) (sym (take_through cs c rest)) h)

next_big : (old : Option Fraction) (cs : List NumberChange) (c : NumberChange) (g : Gathered) (rest : List NumberChange)
    → gathered_after old (gathered_of old cs) c ≡ Some g → IsBigNumber g.value → BigTerm old (cs ++ c ∷ rest)
next_big old [] c g rest e h = first_big old c.target c.change c.operand rest (subst IsBigNumber (sym (ap value_in e)) h)
next_big old (d ∷ more) c g rest e h =
    let both : (is_shift d.change ≡ true) × IsShift c.change = both_shift c.change c.operand (is_shift d.change) (new_number old (d ∷ more)) g e in
    let value : new_number old (d ∷ more ++ c ∷ []) ≡ g.value = ap value_in (next_is old (d ∷ more) c g e) in
    part_big old (d ∷ more) c rest (subst IsBigNumber (sym value ∙ shifts_of old d (more ++ c ∷ []) (shifts d.change both.0)) h)

-- ---- the table of numbers

abbrev target_of : NumberChange → Ground
target_of c = c.target

module _ (s : State) (m : table.FinMap ground_cmp Gathered) (c : NumberChange) where
  pub gathers_more : (n : table.FinMap ground_cmp Gathered) (g : Gathered) → gathered_after (number_at s c.target) (table.get m c.target) c ≡ Some g
      → n ≡ table.insert m c.target g → GathersMore s m c n
  gathers_more n g e is before h =
      let here : gathered_after (number_at s c.target) (gathered_of (number_at s c.target) (changes_at c.target before)) c ≡ Some g =
      ap (λ o. gathered_after (number_at s c.target) o c) (sym (h.made c.target)) ∙ e in
      let get : (t : Ground) → table.get n t ≡ cond (is_at t c.target) (Some g) (table.get m t) = λ t. ap (λ x. table.get x t) is ∙ table.get-insert ground_total m c.target g t in
      record {
        made = at_each target_of (λ t cs. table.get n t ≡ gathered_of (number_at s t) cs) before c
            (get c.target ∙ ap (λ b. cond b (Some g) (table.get m c.target)) (own c.target) ∙ sym (next_is (number_at s c.target) (changes_at c.target before) c g here))
            (λ t off. get t ∙ ap (λ b. cond b (Some g) (table.get m t)) off ∙ h.made t);
        apart = at_each target_of (λ t cs. ¬ IsMixed cs) before c
            (next_apart (number_at s c.target) (changes_at c.target before) c g here (h.apart c.target)) (λ t off. h.apart t);
      }

  pub stops_at : (e : Stop) → IsGatheredStop (gathered_after (number_at s c.target) (table.get m c.target) c) e → StopsAt s m c e
  stops_at stop.Memory k before behind h = tt
  stops_at stop.TooLarge k before behind h =
      let old = number_at s c.target in
      let cs = changes_at c.target before in
      some_within (λ d. BigTerm (number_at s d.target) (changes_at d.target (before ++ c ∷ behind))) before c behind
      (subst (BigTerm old) (sym (of_own target_of before c behind))
      (by (gathered_after old (gathered_of old cs) c) refl (subst (λ o. IsSomeAnd (gathered_after old o c) (λ g. IsBigNumber g.value)) (h.made c.target) k)))
    where
      by : (o : Option Gathered) → gathered_after (number_at s c.target) (gathered_of (number_at s c.target) (changes_at c.target before)) c ≡ o → IsSomeAnd o (λ g. IsBigNumber g.value)
          → BigTerm (number_at s c.target) (changes_at c.target before ++ c ∷ changes_at c.target behind)
      by None e k = absurd k
      by (Some g) e k = next_big (number_at s c.target) (changes_at c.target before) c g (changes_at c.target behind) e k
  stops_at (stop.Refused why.NumberConflict) k before behind h = (
    c.target,
    subst IsMixed (sym (of_own target_of before c behind))
        (next_mixed (number_at s c.target) (changes_at c.target before) c (changes_at c.target behind)
        (ap (λ o. gathered_after (number_at s c.target) o c) (sym (h.made c.target)) ∙ k)),
  )
  stops_at (stop.Refused why.Precondition) k before behind h = absurd k
  stops_at (stop.Refused why.ConditionUndefined) k before behind h = absurd k
  stops_at (stop.Refused why.ObjectUndefined) k before behind h = absurd k
  stops_at (stop.Refused why.NumberUndefined) k before behind h = absurd k
  stops_at (stop.Refused why.ObjectConflict) k before behind h = absurd k

pub none_gathered : (s : State) → AreGathered s [] table.empty
none_gathered s = record { made = λ t. table.get-empty ground_cmp t; apart = λ t m. let two : 2 ≤ 0 = m.0 in omega arith }

value-is : (old : Option Fraction) (cs : List NumberChange) → gathered_value (gathered_of old cs) old ≡ new_number old cs
value-is old [] = refl
value-is old (c ∷ more) = refl

pub settles : (s : State) (cs : List NumberChange) (m : table.FinMap ground_cmp Gathered) → AreGathered s cs m → new_numbers s m cs ≡ settled_numbers s cs
settles s cs m h = λ i. map (λ (c : NumberChange). record {
  target = c.target;
  value = (ap (λ o. gathered_value o (number_at s c.target)) (h.made c.target) ∙ value-is (number_at s c.target) (changes_at c.target cs)) i;
}) cs

-- ---- objects

abbrev term_of : ObjectChange → Ground
term_of c = c.target

first_of : (xs ys : List ObjectChange) (v : Option Name) → first_value xs ≡ Some v → first_value (xs ++ ys) ≡ Some v
first_of [] ys v e = absurd (some≢none v (sym e))
first_of (x ∷ xs) ys v e = e

no_first : (xs : List ObjectChange) → first_value xs ≡ None → xs ≡ []
no_first [] e = refl
no_first (x ∷ xs) e = absurd (some≢none _ e)

agree_more : (before : List ObjectChange) (c : ObjectChange) → AreUnanimous before → first_value (objects_at c.target (before ++ c ∷ [])) ≡ Some c.value → AreUnanimous (before ++ c ∷ [])
agree_more before c all last =
    every_push (λ d. first_value (objects_at d.target (before ++ c ∷ [])) ≡ Some d.value) before c
    (each (λ d. first_value (objects_at d.target before) ≡ Some d.value) (λ d. first_value (objects_at d.target (before ++ c ∷ [])) ≡ Some d.value)
    (λ d e. ap first_value (filter-append (λ (x : ObjectChange). is_at d.target x.target) before (c ∷ []))
    ∙ first_of (objects_at d.target before) (objects_at d.target (c ∷ [])) d.value e) before all) last

module _ (m : table.FinMap ground_cmp (Option Name)) (c : ObjectChange) where
  pub first_new : (n : table.FinMap ground_cmp (Option Name)) → table.get m c.target ≡ None → n ≡ table.insert m c.target c.value → FirstOfMore m c n
  first_new n none is before h =
      let get : (t : Ground) → table.get n t ≡ cond (is_at t c.target) (Some c.value) (table.get m t) = λ t. ap (λ x. table.get x t) is ∙ table.get-insert ground_total m c.target c.value t in
      let nothing : objects_at c.target before ≡ [] = no_first (objects_at c.target before) (sym (h.made c.target) ∙ none) in
      let here : first_value (objects_at c.target before ++ c ∷ []) ≡ Some c.value = ap (λ xs. first_value (xs ++ c ∷ [])) nothing in
      record {
        made = at_each term_of (λ t cs. table.get n t ≡ first_value cs) before c
            (get c.target ∙ ap (λ b. cond b (Some c.value) (table.get m c.target)) (own c.target) ∙ sym here)
            (λ t off. get t ∙ ap (λ b. cond b (Some c.value) (table.get m t)) off ∙ h.made t);
        agree = agree_more before c h.agree (ap first_value (of_own term_of before c []) ∙ here);
      }

  module _ (v : Option Name) (some : table.get m c.target ≡ Some v) where
    pub first_same : v ≡ c.value → FirstOfMore m c m
    first_same is before h =
        let first : first_value (objects_at c.target before) ≡ Some c.value = sym (h.made c.target) ∙ some ∙ ap Some is in
        let here : first_value (objects_at c.target before ++ c ∷ []) ≡ Some c.value = first_of (objects_at c.target before) (c ∷ []) c.value first in
        record {
          made = at_each term_of (λ t cs. table.get m t ≡ first_value cs) before c (some ∙ ap Some is ∙ sym here) (λ t off. h.made t);
          agree = agree_more before c h.agree (ap first_value (of_own term_of before c []) ∙ here);
        }

    pub first_differs : v ≢ c.value → DiffersFrom m c (stop.Refused why.ObjectConflict)
    first_differs differs before behind h = (
      c.target,
      subst (λ xs. Somewhere (λ d. Somewhere (λ e. d.value ≢ e.value) xs) xs) (sym (of_own term_of before c behind))
          (by (objects_at c.target before) (objects_at c.target behind) (sym (h.made c.target) ∙ some)),
    )
      where
        by : (xs ys : List ObjectChange) → first_value xs ≡ Some v → Somewhere (λ d. Somewhere (λ e. d.value ≢ e.value) (xs ++ c ∷ ys)) (xs ++ c ∷ ys)
        by [] ys e = absurd (some≢none v (sym e))
        by (d ∷ xs) ys e = inl (some_within (λ e. d.value ≢ e.value) (d ∷ xs) c ys (λ is. differs (ap (λ o. unwrap_or o v) (sym e) ∙ is)))

pub none_first : AreFirst [] table.empty
none_first = record { made = λ t. table.get-empty ground_cmp t; agree = tt }

pub no_two : (cs : List ObjectChange) → AreUnanimous cs → ¬ TwoDiffer cs
no_two cs all h =
    let at : (t : Ground) (P : ObjectChange → Type 0) → Somewhere P (objects_at t cs) → (c : ObjectChange) × (first_value (objects_at t cs) ≡ Some c.value) × P c = λ t P k.
    let found : (c : ObjectChange) × (first_value (objects_at c.target cs) ≡ Some c.value) × ((is_at t c.target ≡ true) × P c) =
    pick (λ (c : ObjectChange). first_value (objects_at c.target cs) ≡ Some c.value) (λ c. (is_at t c.target ≡ true) × P c) cs all (passed (λ (c : ObjectChange). is_at t c.target) P cs k) in
    (found.0, ap (λ u. first_value (objects_at u cs)) (tied t found.0.target found.2.0) ∙ found.1, found.2.1) in
    let one : (c : ObjectChange) × (first_value (objects_at h.0 cs) ≡ Some c.value) × Somewhere (λ d. c.value ≢ d.value) (objects_at h.0 cs) = at h.0 _ h.1 in
    let other : (d : ObjectChange) × (first_value (objects_at h.0 cs) ≡ Some d.value) × (one.0.value ≢ d.value) = at h.0 _ one.2 in
    other.2 (ap (λ o. unwrap_or o one.0.value) (sym one.1 ∙ other.1))

-- ---- loops over the changes

pub gathers_none : (s : State) (cs : List MadeChange) (m : table.FinMap ground_cmp Gathered) → m ≡ table.empty → AreGathered s (map number_meant (take 0 cs)) m
gathers_none s [] m is = subst (AreGathered s []) (sym is) (none_gathered s)
gathers_none s (c ∷ cs) m is = subst (AreGathered s []) (sym is) (none_gathered s)

pub firsts_none : (cs : List FoundObject) (m : table.FinMap ground_cmp (Option Name)) → m ≡ table.empty → AreFirst (map object_meant (take 0 cs)) m
firsts_none [] m is = subst (AreFirst []) (sym is) none_first
firsts_none (c ∷ cs) m is = subst (AreFirst []) (sym is) none_first

module _ {A B : Type 0} (g : A → B) where
  taken : (xs : List A) (i : ℕ) (x : A) → i < length xs → x ≡ get_or xs i x → map g (take i xs) ++ g x ∷ [] ≡ map g (take (i + 1) xs)
  taken xs i x within at =
      sym (map-append g (take i xs) (x ∷ [])) ∙ ap (map g) (ap (λ y. take i xs ++ y ∷ []) at ∙ sym (take_more xs i x within))

  -- the list at one of its items
  parted : (xs : List A) (i : ℕ) (x : A) → i < length xs → x ≡ get_or xs i x → (behind : List B) × (map g (take i xs) ++ g x ∷ behind ≡ map g xs)
  parted [] i x within at = absurd (omega arith)
  parted (y ∷ xs) zero x within at = (map g xs, ap (λ z. g z ∷ map g xs) at)
  parted (y ∷ xs) (suc i) x within at = let p : (behind : List B) × (map g (take i xs) ++ g x ∷ behind ≡ map g xs) = parted xs i x (omega arith) at in (p.0, ap (λ zs. g y ∷ zs) p.1)

  pub loop_more : (P : List B → Type 0) (xs : List A) (i : ℕ) (x : A) → i < length xs → x ≡ get_or xs i x → P (map g (take i xs) ++ g x ∷ []) → P (map g (take (i + 1) xs))
  loop_more P xs i x within at h = subst P (taken xs i x within at) h

  pub loop_stops : (P : List B → Type 0) (xs : List A) (i : ℕ) (x : A) → i < length xs → x ≡ get_or xs i x → ((behind : List B) → P (map g (take i xs) ++ g x ∷ behind)) → P (map g xs)
  loop_stops P xs i x within at h = let p : (behind : List B) × (map g (take i xs) ++ g x ∷ behind ≡ map g xs) = parted xs i x within at in subst P p.1 (h p.0)
