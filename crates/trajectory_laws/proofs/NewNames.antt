-- Plain formulas with one new name after another: their form and their truth stay, and the old names are gone.
use Rattle.std.proofs.Common.{◌≡◌, ◌⊎◌, Bool, true, false, cond, true≢false, List, [], ◌∷◌, map, refl, ap, sym, ◌∙◌, subst, inl, inr}
use Rattle.std.specs.Prelude.{⊤, if◌then◌else◌}
use Rattle.std.specs.Str.{bytes_eq}
use Rattle.std.specs.Cmp.Lexicographic.{bytes_decides}
use Rattle.up_text.specs.declared.name.Name.{Name}
use Rattle.up_text.specs.Names.{same_name, IsName}
use Rattle.up_text.specs.Fresh.{is_among, fresh_name}
use Rattle.up_text.specs.Lists.{Member}
use Rattle.up_tree.specs.declared.term.Typed.{Typed}
use Rattle.up_tree.specs.declared.formula.Formula.{Formula}
use Rattle.up_tree.specs.declared.problem.Parts.{Parts}
use Rattle.up_tree.specs.Objects.{World, Assignment}
use Rattle.up_tree.specs.State.{State}
use Rattle.up_tree.specs.Judged.{truth_of}
use Rattle.up_tree.specs.WellFormed.{IsPlain, IsFormula}
use Rattle.expansion_laws.specs.Renamed.{new_name, renamed, Lacks}
use Rattle.expansion_laws.proofs.Renaming.{same_judged, differ_as}
use Rattle.compiling_laws.proofs.Lists.{any_from}
use Rattle.trajectory_laws.specs.Variables.{names, bound, Renaming, renamings, with_new_names}
use Rattle.trajectory_laws.proofs.Told.{closed_same}
use Rattle.trajectory_laws.proofs.Renamed.{Lacking, bound-renamed, unbound_lacks, renamed_plain, renamed_formed}

-- ---- one new name after another

-- each new name is a name, and none of the used ones or of those before it
abbrev pub AreNew : List Renaming → List Name → Type 0
AreNew [] used = ⊤
AreNew (r ∷ more) used = (¬ Member r.new used) × IsName r.new × AreNew more (r.new ∷ used)

abbrev pub Within : List Name → List Name → Type 0
Within vs used = (v : Name) → Member v vs → Member v used

pub record IsStill (q : Parts) (objects : List Typed) (f g : Formula) : Type 0 where
  pub formed : IsFormula q objects [] f
  pub plain : IsPlain f
  pub truth : (w : World) (s : State) (e : Assignment) → truth_of w s e f ≡ truth_of w s e g

-- what a name was
was : (from to x : Name) (vs : List Name) → Member x (map (new_name from to) vs) → (x ≡ to) ⊎ Member x vs
was from to x (v ∷ vs) (inr m) = elim (was from to x vs m) [ inl e ↦ inl e | inr k ↦ inr (inr k) ]
was from to x (v ∷ vs) (inl e) = by (same_name v from) e
  where
    by : (b : Bool) → x ≡ (if b then to else v) → (x ≡ to) ⊎ Member x (v ∷ vs)
    by true e = inl e
    by false e = inr (inl e)
was from to x [] m = absurd m

bound_within : (from to : Name) (f : Formula) (used : List Name) → Within (bound f) used → Within (bound (renamed from to f)) (to ∷ used)
bound_within from to f used within v m = elim (was from to v (bound f) (subst (Member v) (bound-renamed from to f) m)) [
  | inl e ↦ inl e
  | inr k ↦ inr (within v k)
]

pub new_names_keep : (q : Parts) (objects : List Typed) (rs : List Renaming) (used : List Name) → AreNew rs used → (f : Formula) → IsFormula q objects [] f → IsPlain f → Within (bound f) used →
    IsStill q objects (with_new_names rs f) f
new_names_keep q objects [] used new f is plain within = record { formed = is; plain = plain; truth = λ w s e. refl }
new_names_keep q objects (r ∷ rs) used new f is plain within =
    let free : Lacking r.new (bound f) = λ m. new.0 (within r.new m) in
    let g : Formula = renamed r.old r.new f in
    let formed : IsFormula q objects [] g = renamed_formed r.old r.new q objects new.1 [] (λ m. m) f is plain free in
    let more : IsStill q objects (with_new_names rs g) g =
    new_names_keep q objects rs (r.new ∷ used) new.2 g formed (renamed_plain r.old r.new f plain) (bound_within r.old r.new f used within) in
    let lacks : Lacks r.new f = unbound_lacks q objects r.new [] (λ m. m) f is plain free in
    record {
      formed = more.formed;
      plain = more.plain;
      truth = λ w s e. more.truth w s e ∙ same_judged r.old r.new s w (λ v. e (new_name r.old r.new v)) e (λ v n. refl) f lacks
          ∙ closed_same q objects w s (λ v. e (new_name r.old r.new v)) e f is;
    }

-- a used name that isn't bound stays so
pub still_free : (rs : List Renaming) (used : List Name) → AreNew rs used → (f : Formula) (x : Name) → Member x used → Lacking x (bound f) → Lacking x (bound (with_new_names rs f))
still_free [] used new f x at free = free
still_free (r ∷ rs) used new f x at free =
    still_free rs (r.new ∷ used) new.2 (renamed r.old r.new f) x (inr at)
    (λ m. elim (was r.old r.new x (bound f) (subst (Member x) (bound-renamed r.old r.new f) m)) [
      | inl e ↦ new.0 (subst (λ y. Member y used) e at)
      | inr k ↦ free k
    ])

-- the parameters that are among the added names give way
pub among : (added : List Name) (y : Name) → Member y added → is_among added y ≡ true
among added y m = any_from (bytes_eq y) added y m ((bytes_decides y y).1 refl)

pub cleared : (added used : List Name) (params : List Typed) → AreNew (renamings added used params) used → ((v : Name) → Member v (names params) → Member v used) → (f : Formula) →
    ((y : Name) → Member y (bound f) → Member y (names params) → is_among added y ≡ true) → (v : Name) → Member v (names params) → Lacking v (bound (with_new_names (renamings added used params) f))
cleared added used [] new within f told v m = absurd m
cleared added used (x ∷ params) new within f told z there =
    by (is_among added x.name) refl new
    (λ new g told. cleared added (fresh_name x.name used ∷ used) params new (λ v m. inr (within v (inr m))) g told)
    (λ new told. cleared added used params new (λ v m. within v (inr m)) f told) z there
  where
    by : (b : Bool) → is_among added x.name ≡ b →
        AreNew (cond b (record { old = x.name; new = fresh_name x.name used } ∷ renamings added (fresh_name x.name used ∷ used) params) (renamings added used params)) used →
        (AreNew (renamings added (fresh_name x.name used ∷ used) params) (fresh_name x.name used ∷ used) → (g : Formula) → ((y : Name) → Member y (bound g) → Member y (names params) → is_among added y ≡ true) →
        (v : Name) → Member v (names params) → Lacking v (bound (with_new_names (renamings added (fresh_name x.name used ∷ used) params) g))) →
        (AreNew (renamings added used params) used → ((y : Name) → Member y (bound f) → Member y (names params) → is_among added y ≡ true) →
        (v : Name) → Member v (names params) → Lacking v (bound (with_new_names (renamings added used params) f))) →
        (v : Name) → Member v (names (x ∷ params)) →
        Lacking v (bound (with_new_names (cond b (record { old = x.name; new = fresh_name x.name used } ∷ renamings added (fresh_name x.name used ∷ used) params) (renamings added used params)) f))
    by true is new later other v (inl e) =
        still_free (renamings added (fresh_name x.name used ∷ used) params) (fresh_name x.name used ∷ used) new.2 (renamed x.name (fresh_name x.name used) f) v (inr (within v (inl e)))
        (λ m. gone (bound f) (subst (Member v) (bound-renamed x.name (fresh_name x.name used) f) m))
      where
        gone : (vs : List Name) → ¬ Member v (map (new_name x.name (fresh_name x.name used)) vs)
        gone [] m = m
        gone (y ∷ vs) (inr m) = gone vs m
        gone (y ∷ vs) (inl k) = one (same_name y x.name) refl k
          where
            one : (c : Bool) → same_name y x.name ≡ c → v ≡ (if c then fresh_name x.name used else y) → ⊥
            one true at k = new.0 (subst (λ z. Member z used) k (within v (inl e)))
            one false at k = differ_as y x.name at (sym k ∙ e)
    by true is new later other v (inr at) =
        later new.2 (renamed x.name (fresh_name x.name used) f)
        (λ y m k. elim (was x.name (fresh_name x.name used) y (bound f) (subst (Member y) (bound-renamed x.name (fresh_name x.name used) f) m)) [
          | inl e ↦ absurd (new.0 (subst (λ z. Member z used) e (within y (inr k))))
          | inr h ↦ told y h (inr k)
        ]) v at
    by false is new later other v (inl e) =
        still_free (renamings added used params) used new f v (within v (inl e))
        (λ m. true≢false (sym (told v m (inl e)) ∙ ap (is_among added) e ∙ is))
    by false is new later other v (inr at) = other new (λ y m k. told y m (inr k)) v at
