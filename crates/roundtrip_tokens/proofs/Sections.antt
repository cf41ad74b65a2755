-- The tokens of texts in pieces: lines, sections and what follows them.
use Rattle.std.proofs.Common.{◌≡◌, ℕ, true, List, [], ◌∷◌, ◌++◌, refl, ap, sym, append_assoc}
use Rattle.std.specs.Prelude.{codes, flat_map}
use Rattle.std.specs.List.{concat}
use Rattle.up_text.specs.Lists.{Every}
use Rattle.pddl_lex.specs.declared.tree.TokenKind.{TokenKind}
use Rattle.pddl_lex.specs.declared.tree.TokenKind.TheVariants.{Open, Close, Keyword}
use Rattle.pddl_lex.specs.Next.{next, sign}
use Rattle.pddl_write.specs.Files.{each, members, section}
use Rattle.roundtrip_tokens.specs.FileTokens.{section_tokens}
use Rattle.roundtrip_tokens.proofs.Lexes.{Shut, Lexes, is_apart, is_cut, apart_cut, behind, follows, open_bracket, one_space, keyword}
use Rattle.roundtrip_tokens.proofs.Named.{Spelled}
use Rattle.roundtrip_tokens.proofs.EffectPhrases.{regroup}

-- the pieces are of these kinds, and apart
pub record After (pieces : List (List ℕ)) (ks : List TokenKind) : Type 0 where
  pub lexes : Lexes (concat pieces) ks
  pub apart : is_apart (concat pieces) ≡ true

pub regrouped : {pieces : List (List ℕ)} {ks ls : List TokenKind} → After pieces ks → ks ≡ ls → After pieces ls
regrouped rest is = record { lexes = regroup rest.lexes is; apart = rest.apart }

pub line_after : {line : List ℕ} {ls : List TokenKind} {rest : List (List ℕ)} {ks : List TokenKind}
    → Lexes line ls → is_cut line ≡ true → After rest ks → After (line ∷ rest) (ls ++ ks)
line_after {line} {rest = rest} one cut more = record { lexes = follows one more.apart more.lexes; apart = apart_cut line (concat rest) cut }

pub line_end : Shut (codes ")\n") (Close ∷ [])
unfolding next sign
line_end = record { before = λ rest. refl }

pub end_line : Lexes (codes ")\n") (Close ∷ [])
unfolding next sign
end_line = record { before = λ rest apart. refl }

pub end_after : After (codes ")\n" ∷ []) (Close ∷ [])
unfolding next sign
end_after = record { lexes = record { before = λ rest apart. refl }; apart = refl }

module _ {X : Type 0} (text : X → List ℕ) (tokens : X → List TokenKind) (P : X → Type 0) (one : (x : X) → P x → Lexes (text x) (tokens x)) where
  pub each_after : (xs : List X) → Every P xs → {rest : List (List ℕ)} {ks : List TokenKind} → After rest ks → After (each text xs rest) (flat_map tokens xs ++ ks)
  each_after [] all rest = rest
  each_after (x ∷ xs) all {ks = ks} rest =
      let others = each_after xs all.1 rest in
      record {
        lexes = regroup (follows (behind one_space (one x all.0)) others.apart others.lexes) (sym (append_assoc (tokens x) (flat_map tokens xs) ks));
        apart = refl;
      }

  pub members_after : (xs : List X) → Every P xs → {rest : List (List ℕ)} {ks : List TokenKind} → After rest ks → After (members text xs rest) (flat_map tokens xs ++ Close ∷ ks)
  members_after xs all rest = each_after xs all (record { lexes = behind line_end rest.lexes; apart = refl })

  pub section_after : (word : List ℕ) → Spelled word → (xs : List X) → Every P xs → {rest : List (List ℕ)} {ks : List TokenKind} → After rest ks
      → After (section (codes "(" ++ (codes ":" ++ word)) text xs rest) (section_tokens word tokens xs ++ ks)
  section_after word is [] all rest = rest
  section_after word is (x ∷ xs) all {ks = ks} rest =
      let inside = members_after (x ∷ xs) all rest in
      record {
        lexes = regroup (follows (behind open_bracket (keyword word is)) inside.apart inside.lexes)
            (ap (λ (more : List TokenKind). Open ∷ Keyword word ∷ more) (sym (append_assoc (flat_map tokens (x ∷ xs)) (Close ∷ []) ks)));
        apart = refl;
      }

-- eight parts, grouped from the right and from the left
pub eight : (a b c d e f g h : List TokenKind) → a ++ (b ++ (c ++ (d ++ (e ++ (f ++ (g ++ h)))))) ≡ a ++ b ++ c ++ d ++ e ++ f ++ g ++ h
eight a b c d e f g h = simp append_assoc
