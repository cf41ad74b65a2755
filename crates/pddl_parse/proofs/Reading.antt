-- What the definitions say where every part has been read.
use Rattle.std.proofs.Common.{◌≡◌, ℕ, ◌-◌, length, List, [], ◌∷◌, map, take, drop, refl, ap, sym, ◌∙◌}
use Rattle.std.specs.Prelude.{nat_lt, Option, Some}
use Rattle.std.proofs.lemmas.List.{take-map, take_rest}
use Rattle.up_text.specs.declared.place.Place.{Place}
use Rattle.pddl_lex.specs.declared.tree.Sexp.{Sexp, Group}
use Rattle.pddl_lex.specs.Parses.{parsed, all, over, followed, behind}
use Rattle.pddl_parse.specs.declared.raw.Operator.{Operator}
use Rattle.pddl_parse.specs.declared.raw.RawTerm.{RawTerm, Arithmetic}
use Rattle.pddl_parse.proofs.Nodes.{term-Group}
use Rattle.pddl_parse.specs.Shapes.{lacking, extra}
use Rattle.pddl_parse.specs.Terms.{term, operator_of, arithmetic, least, most}

pub arithmetic_parsed : (op : Operator) (place : Place) (rest : List Sexp) (ts : List RawTerm)
    → lacking (nat_lt (length rest) (least op)) place ≡ [] → all (map term (take (most op (length rest)) rest)) ≡ parsed ts
    → extra (drop (most op (length rest)) rest) ≡ [] → arithmetic op place rest (map term rest) ≡ parsed (Arithmetic place op ts)
arithmetic_parsed op place rest ts enough read ended = rw (enough, take-map term (most op (length rest)) rest, read, ended) refl

pub term_arithmetic : (tree : Sexp) (place : Place) (items slice : List Sexp) (head : Sexp) (rest : List Sexp) (found : Option Operator) (op : Operator) (ts : List RawTerm) (count : ℕ)
    → tree ≡ Group place items → slice ≡ items → slice ≡ head ∷ rest → found ≡ operator_of head → found ≡ Some op
    → lacking (nat_lt (length rest) (least op)) place ≡ [] → count ≡ most op (length rest)
    → all (map term (take count rest)) ≡ parsed ts
    → extra (take (length rest - count) (drop count rest)) ≡ []
    → term tree ≡ parsed (Arithmetic place op ts)
term_arithmetic tree place items slice head rest found op ts count is whole parts asked some enough counted read ended =
    rw (is, term-Group place items, ← whole, parts, ← asked, some)
    (arithmetic_parsed op place rest ts enough (rw counted at read) (rw (take_rest rest count, counted) at ended))
