-- A term writes the bytes of its encoding to a hasher.
use Rattle.std.specs.Prelude.{◌≡◌, ℕ, List, [], ◌∷◌, ◌++◌, map, refl}
use Rattle.std.proofs.Common.{sym, ap, ◌∙◌, subst, append_assoc, append-nil, length}
use Rattle.std.proofs.lemmas.List.{length-map}
use Rattle.std.specs.Int.{to_be_bytes, w64}
use Rattle.ets_term.specs.declared.term.Term.{Term, ind-Term, fold-roll-Term}
use Rattle.ets_term.specs.declared.term.Term.TheViews.{roll-Term}
use Rattle.ets_term.specs.declared.term.Term.TheFolds.{map-Term}
use Rattle.ets_term.specs.declared.term.Term.TheOpen.{Term-F}
use Rattle.ets_term.specs.Encoding.{concat, encoding, encoding_form}
use Rattle.ets_term.specs.Writes.{writes, writes_form}

abbrev Known : Type 0
Known = (t : Term) × (concat (writes t) ≡ encoding t)

abbrev plain : Known → Term
plain k = k.0

concat-append : (xs ys : List (List ℕ)) → concat (xs ++ ys) ≡ concat xs ++ concat ys
concat-append [] ys = refl
concat-append (x ∷ xs) ys = ap (λ zs. x ++ zs) (concat-append xs ys) ∙ sym (append_assoc x (concat xs) (concat ys))

all_joined : (ks : List Known) → concat (concat (map writes (map plain ks))) ≡ concat (map encoding (map plain ks))
all_joined [] = refl
all_joined (k ∷ ks) = concat-append (writes k.0) (concat (map writes (map plain ks))) ∙ (λ i. k.1 i ++ all_joined ks i)

lengths : (ks : List Known) → length (map writes (map plain ks)) ≡ length (map encoding (map plain ks))
lengths ks = length-map (map plain ks) writes ∙ sym (length-map (map plain ks) encoding)

abbrev opened : Term-F Known → Term
opened y = roll-Term (map-Term Known Term plain y)

abbrev written : Term-F Known → List (List ℕ)
written y = writes_form (map-Term Term (List (List ℕ)) writes (map-Term Known Term plain y))

abbrev encoded : Term-F Known → List ℕ
encoded y = encoding_form (map-Term Term (List ℕ) encoding (map-Term Known Term plain y))

one_level : (y : Term-F Known) → concat (written y) ≡ encoded y
one_level (Term-F.Int n) = ap (λ bs. 1 ∷ bs) (append-nil _)
one_level (Term-F.Atom s) = ap (λ bs. 2 ∷ length s ∷ bs) (append-nil s)
one_level (Term-F.Pid n) = ap (λ bs. 3 ∷ bs) (append-nil _)
one_level (Term-F.Tid n) = ap (λ bs. 4 ∷ bs) (append-nil _)
one_level (Term-F.Tuple ks) = λ i. 5 ∷ (to_be_bytes w64 (lengths ks i) ++ all_joined ks i)
one_level (Term-F.List ks) = λ i. 6 ∷ (to_be_bytes w64 (lengths ks i) ++ all_joined ks i)
one_level (Term-F.Binary s) = ap (λ bs. 7 ∷ (to_be_bytes w64 (length s) ++ bs)) (append-nil s)

one_joined : (y : Term-F Known) → concat (writes (opened y)) ≡ encoding (opened y)
one_joined y = ap concat (fold-roll-Term (List (List ℕ)) writes_form (map-Term Known Term plain y)) ∙ one_level y ∙ sym (fold-roll-Term (List ℕ) encoding_form (map-Term Known Term plain y))

pub concat-writes : (t : Term) → concat (writes t) ≡ encoding t
concat-writes = ind-Term (λ t. concat (writes t) ≡ encoding t) (λ x y e. subst (λ (z : Term-F Term). concat (writes (roll-Term z)) ≡ encoding (roll-Term z)) e (one_joined y))
