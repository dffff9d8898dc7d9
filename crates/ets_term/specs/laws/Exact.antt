-- The tree of a term determines the term.
use Rattle.std.specs.Prelude.{◌≡◌, List, [], ◌∷◌, map, refl}
use Rattle.std.proofs.Common.{sym, ap, ◌∙◌, rules, subst}
use Rattle.ets_term.specs.declared.term.Term.{Term, ind-Term, fold-roll-Term, the_lemmas}
use Rattle.ets_term.specs.declared.term.Term.TheViews.{roll-Term}
use Rattle.ets_term.specs.declared.term.Term.TheFolds.{map-Term}
use Rattle.ets_term.specs.declared.term.Term.TheOpen.{Term-F}
use Rattle.ets_term.specs.declared.term.Term.TheVariants.{Int, Atom, Pid, Tid, Tuple, List as Lst, Binary, rolls-Int, rolls-Atom, rolls-Pid, rolls-Tid, rolls-Tuple, rolls-List, rolls-Binary}
use Rattle.ets_term.specs.Data.{Data, tuple, list, data_list, data_form, data_of}
use Rattle.ets_term.specs.Trees.{terms_of, term_of}

pub data_of-Tuple : (ts : List Term) → data_of (Tuple ts) ≡ tuple (data_list (map data_of ts))
data_of-Tuple ts = search (rules, the_lemmas)

pub data_of-List : (ts : List Term) → data_of (Lst ts) ≡ list (data_list (map data_of ts))
data_of-List ts = search (rules, the_lemmas)

abbrev Known : Type 0
Known = (t : Term) × (term_of (data_of t) ≡ t)

abbrev plain : Known → Term
plain k = k.0

all_back : (ks : List Known) → terms_of (data_list (map data_of (map plain ks))) ≡ map plain ks
all_back [] = refl
all_back (k ∷ ks) = λ i. k.1 i ∷ all_back ks i

abbrev term_of_known : Term-F Known → Term
term_of_known y = roll-Term (map-Term Known Term plain y)

one_back : (y : Term-F Known) → term_of (data_of (term_of_known y)) ≡ term_of_known y
one_back (Term-F.Int n) = ap term_of (fold-roll-Term Data data_form (Term-F.Int n)) ∙ sym (rolls-Int n)
one_back (Term-F.Atom s) = ap term_of (fold-roll-Term Data data_form (Term-F.Atom s)) ∙ sym (rolls-Atom s)
one_back (Term-F.Pid n) = ap term_of (fold-roll-Term Data data_form (Term-F.Pid n)) ∙ sym (rolls-Pid n)
one_back (Term-F.Tid n) = ap term_of (fold-roll-Term Data data_form (Term-F.Tid n)) ∙ sym (rolls-Tid n)
one_back (Term-F.Tuple ks) =
    ap term_of (fold-roll-Term Data data_form (Term-F.Tuple (map plain ks)))
    ∙ ap Tuple (all_back ks) ∙ sym (rolls-Tuple (map plain ks))
one_back (Term-F.List ks) =
    ap term_of (fold-roll-Term Data data_form (Term-F.List (map plain ks)))
    ∙ ap Lst (all_back ks) ∙ sym (rolls-List (map plain ks))
one_back (Term-F.Binary s) = ap term_of (fold-roll-Term Data data_form (Term-F.Binary s)) ∙ sym (rolls-Binary s)

pub back : (t : Term) → term_of (data_of t) ≡ t
back =
    ind-Term (λ t. term_of (data_of t) ≡ t)
    (λ x y e. subst (λ (z : Term-F Term). term_of (data_of (roll-Term z)) ≡ roll-Term z) e (one_back y))

pub data_of-exact : (t u : Term) → data_of t ≡ data_of u → t ≡ u
data_of-exact t u e = sym (back t) ∙ ap term_of e ∙ back u
