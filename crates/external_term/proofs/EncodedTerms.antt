-- What is written for a term reads back.
use Rattle.std.proofs.Common.{◌≡◌, ℕ, zero, suc, ◌+◌, ◌^◌, ◌<◌, ◌≤◌, List, [], ◌∷◌, ◌++◌, map, length, refl, sym, ap, ◌∙◌, arith, true, ◌==◌, append_assoc, length-append}
use Rattle.std.proofs.lemmas.Bool.{and_parts}
use Rattle.std.proofs.lemmas.List.{append-nil}
use Rattle.std.specs.List.{list_all}
use Rattle.ets_term.specs.Encoding.{concat}
use Rattle.ets_term.specs.Data.{data_list, data_of}
use Rattle.ets_term.specs.Depth.{depth, largest}
use Rattle.ets_term.specs.Fits.{DataListFits, Fits}
use Rattle.ets_term.specs.declared.term.Term.{Term}
use Rattle.ets_term.specs.declared.term.Term.TheVariants.{Tuple, List as ListOf}
use Rattle.external_term.specs.declared.field.Width.{Width}
use Rattle.external_term.specs.declared.field.Width.TheVariants.{One, Four}
use Rattle.external_term.specs.Encoding.{big4, encode, is_small, char_of}
use Rattle.external_term.specs.Fields.{after, number_at}
use Rattle.external_term.specs.Texts.{code}
use Rattle.external_term.specs.Reader.{items, items_at, tuple_at, tail_if, term_at}
use Rattle.external_term.proofs.LeafTrips.{Reads, dispatch}
use Rattle.external_term.proofs.BytesAt.{At, tail, front, room, behind, ok, ends, after_ok, one_at, four_at}
use Rattle.external_term.proofs.Steps.{item_read, enough}

-- what is known of a term: it takes a byte, it has a level, and it reads back, also as a byte of a string
pub record IsRead (t : Term) : Type 0 where
  pub some : 0 < length (encode t)
  pub deep : 0 < depth t
  pub char : is_small (encode t) ≡ true → code (char_of (encode t)) ≡ t
  pub reads : (levels : ℕ) → Fits t → depth t ≤ suc levels → length (encode t) < 2 ^ 32 → Reads t levels (encode t)

abbrev pub Known : Type 0
Known = (t : Term) × IsRead t

abbrev pub bare : Known → Term
bare k = k.0

-- the terms, their bytes, and their greatest depth
abbrev pub terms : List Known → List Term
terms ks = map bare ks

abbrev pub encoded_terms : List Known → List ℕ
encoded_terms ks = concat (map encode (terms ks))

abbrev pub levels_of : List Known → ℕ
levels_of ks = largest (map depth (terms ks))

abbrev pub AllFit : List Known → Type 0
AllFit ks = DataListFits (data_list (map data_of (terms ks)))

pub encoded_terms-long : (ks : List Known) → length (terms ks) ≤ length (encoded_terms ks)
encoded_terms-long [] = omega arith
encoded_terms-long (k ∷ ks) = omega (arith, encoded_terms-long ks, k.1.some, length-append (encode k.0) (encoded_terms ks))

-- each item reads, one after another
pub items_read : (bytes : List ℕ) (levels : ℕ) (done : List Term) (ks : List Known) (at : ℕ) (rest : List ℕ)
    → AllFit ks → levels_of ks ≤ levels → length (encoded_terms ks) < 2 ^ 32 → At bytes at (encoded_terms ks) rest
    → items (term_at bytes levels) done (length (terms ks)) at ≡ ok (done ++ terms ks) (at + length (encoded_terms ks))
items_read bytes levels done [] at rest fits d small h =
    ap (λ (ts : List Term). ok ts at) (sym (append-nil done)) ∙ ends (done ++ []) at (at + 0) (omega arith)
items_read bytes zero done (k ∷ ks) at rest fits d small h = absurd (omega (arith, d, k.1.deep))
items_read bytes (suc levels) done (k ∷ ks) at rest fits d small h =
    let t = k.0 in
    let n = length (encode t) in
    let whole = length-append (encode t) (encoded_terms ks) in
    let a0 : At bytes at (encode t) (encoded_terms ks ++ rest) = front bytes at (encode t) (encoded_terms ks) rest h in
    let a1 : At bytes (at + n) (encoded_terms ks) rest = behind bytes at (encode t) (encoded_terms ks) rest h in
    let one : term_at bytes (suc levels) at ≡ ok t (at + n) =
    k.1.reads levels fits.0 (omega (arith, d)) (omega (arith, small, whole)) bytes at (encoded_terms ks ++ rest) a0 in
    item_read (term_at bytes (suc levels)) done (suc (length (terms ks))) (length (terms ks)) at (t, at + n) refl one
    ∙ items_read bytes (suc levels) (done ++ t ∷ []) ks (at + n) rest fits.1 (omega (arith, d)) (omega (arith, small, whole)) a1
    ∙ ap (λ (ts : List Term). ok ts (at + n + length (encoded_terms ks))) (append_assoc done (t ∷ []) (terms ks))
    ∙ ends (done ++ t ∷ terms ks) (at + n + length (encoded_terms ks)) (at + length (encode t ++ encoded_terms ks)) (omega (arith, whole))

-- a counted encoded_terms
pub counted : (bytes : List ℕ) (levels : ℕ) (ks : List Known) (at : ℕ) (rest : List ℕ)
    → AllFit ks → levels_of ks ≤ levels → length (encoded_terms ks) < 2 ^ 32 → At bytes at (encoded_terms ks) rest
    → items_at bytes (term_at bytes levels) (length (terms ks)) at ≡ ok (terms ks) (at + length (encoded_terms ks))
counted bytes levels ks at rest fits d small h =
    let r = room bytes at (encoded_terms ks) rest h in
    enough bytes (term_at bytes levels) (length (terms ks)) at (omega (arith, h.within)) (omega (arith, r, encoded_terms-long ks))
    ∙ items_read bytes levels [] ks at rest fits d small h

-- a tuple, after its number of elements
pub tuple_reads : (w : Width) (bytes : List ℕ) (levels : ℕ) (ks : List Known) (at next : ℕ) (rest : List ℕ)
    → AllFit ks → levels_of ks ≤ levels → length (encoded_terms ks) < 2 ^ 32 → number_at w bytes (at + 1) ≡ ok (length (terms ks)) next → At bytes next (encoded_terms ks) rest
    → tuple_at w bytes (term_at bytes levels) at ≡ ok (Tuple (terms ks)) (next + length (encoded_terms ks))
tuple_reads w bytes levels ks at next rest fits d small number h =
    after_ok (number_at w bytes (at + 1)) (length (terms ks)) next
    (λ (n next : ℕ). after (items_at bytes (term_at bytes levels) n next) (λ (ts : List Term) (end : ℕ). ok (Tuple ts) end))
    (ok (Tuple (terms ks)) (next + length (encoded_terms ks))) number
    (after_ok (items_at bytes (term_at bytes levels) (length (terms ks)) next) (terms ks) (next + length (encoded_terms ks))
    (λ (ts : List Term) (end : ℕ). ok (Tuple ts) end) (ok (Tuple (terms ks)) (next + length (encoded_terms ks)))
    (counted bytes levels ks next rest fits d small h) refl)

-- a list, after its tag
pub long_list_reads : (levels : ℕ) (ks : List Known) → AllFit ks → levels_of ks ≤ levels → length (encoded_terms ks) < 2 ^ 32
    → Reads (ListOf (terms ks)) levels (108 ∷ (big4 (length (terms ks)) ++ (encoded_terms ks ++ 106 ∷ [])))
long_list_reads levels ks fits d small bytes at rest h =
    let n = length (terms ks) in
    let t = ListOf (terms ks) in
    let last = at + 1 + 4 + length (encoded_terms ks) in
    let xs : List ℕ = 108 ∷ (big4 n ++ (encoded_terms ks ++ 106 ∷ [])) in
    let one = term_at bytes levels in
    let long = length-append (encoded_terms ks) (106 ∷ []) in
    let a1 = tail bytes at 108 (big4 n ++ (encoded_terms ks ++ 106 ∷ [])) rest h in
    let a2 : At bytes (at + 1 + 4) (encoded_terms ks ++ 106 ∷ []) rest = behind bytes (at + 1) (big4 n) (encoded_terms ks ++ 106 ∷ []) rest a1 in
    let a3 : At bytes last (106 ∷ []) rest = behind bytes (at + 1 + 4) (encoded_terms ks) (106 ∷ []) rest a2 in
    dispatch bytes at levels 108 (big4 n ++ (encoded_terms ks ++ 106 ∷ [])) rest h
    ∙ after_ok (number_at Four bytes (at + 1)) n (at + 1 + 4)
    (λ (n next : ℕ). after (items_at bytes one n next) (λ (ts : List Term) (last : ℕ). after (number_at One bytes last) (λ (x end : ℕ). tail_if (x == 106) ts last end)))
    (ok t (at + length xs)) (four_at bytes (at + 1) n (encoded_terms ks ++ 106 ∷ []) rest (omega (arith, small, encoded_terms-long ks)) a1)
    (after_ok (items_at bytes one n (at + 1 + 4)) (terms ks) last
    (λ (ts : List Term) (last : ℕ). after (number_at One bytes last) (λ (x end : ℕ). tail_if (x == 106) ts last end))
    (ok t (at + length xs)) (counted bytes levels ks (at + 1 + 4) (106 ∷ rest) fits d small (front bytes (at + 1 + 4) (encoded_terms ks) (106 ∷ []) rest a2))
    (after_ok (number_at One bytes last) 106 (last + 1) (λ (x end : ℕ). tail_if (x == 106) (terms ks) last end)
    (ok t (at + length xs)) (one_at bytes last 106 [] rest a3)
    (ends t (last + 1) (at + length xs) (omega (arith, long)))))

-- the characters of a string are its elements
pub codes_are : (ks : List Known) → list_all is_small (map encode (terms ks)) ≡ true → map code (map char_of (map encode (terms ks))) ≡ terms ks
codes_are [] h = refl
codes_are (k ∷ ks) h =
    let parts = and_parts (is_small (encode k.0)) (list_all is_small (map encode (terms ks))) h in
    ap (λ (t : Term). t ∷ map code (map char_of (map encode (terms ks)))) (k.1.char parts.0)
    ∙ ap (λ (ts : List Term). k.0 ∷ ts) (codes_are ks parts.1)
