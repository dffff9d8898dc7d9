-- Characters between single quotes, as the printer sends them in pieces.
use Rattle.std.proofs.Common.{◌≡◌, refl, ap, sym, subst, ◌∙◌, ◌+◌, ◌-◌, ◌<◌, ◌≤◌, ◌++◌, ◌==◌, ◌||◌, ℕ, zero, suc, List, [], ◌∷◌, length, take, drop, get_or, arith, add-one, true, false, append_assoc, Option, Result}
use Rattle.std.proofs.lemmas.List.{append-nil, take_more, take_all, get_or-drop, length-drop, drop_more, at_drop_more}
use Rattle.std.proofs.lemmas.Bool.{and_parts}
use Rattle.std.proofs.lemmas.Bool.Decides.{nat_tests}
use Rattle.std.proofs.lemmas.Str.{IsCharBoundary-from_ascii}
use Rattle.std.proofs.lemmas.Str.Ascii.{IsAscii-nil, IsAscii-cons}
use Rattle.std.specs.Io.KnownBytes.{Appends}
use Rattle.std.specs.List.{list_all, flat_map}
use Rattle.std.specs.Str.{IsAscii, IsCharBoundary}
use Rattle.ets_term.specs.Character.{is_character}
use Rattle.term_text.specs.Printed.{escape}
use Rattle.term_text.specs.Sent.{AppendsPrefix, AppendsOrPrefix}
use Rattle.term_text.proofs.Pieces.{appends-then, front-first, front-then, front-as, sends-as, sends-then, appends-nothing}
use Rattle.term_text.proofs.Offsets.{if-true, if-false}

small : (b : ℕ) → is_character b ≡ true → b < 128
small b h = grind (arith, nat_tests)

pub ascii : (bs : List ℕ) → list_all is_character bs ≡ true → IsAscii bs
ascii [] h = IsAscii-nil
ascii (b ∷ bs) h = let p = and_parts (is_character b) (list_all is_character bs) h in IsAscii-cons b bs (small b p.0) (ascii bs p.1)

pub boundary : (bs : List ℕ) (i : ℕ) → list_all is_character bs ≡ true → i ≤ length bs → IsCharBoundary bs i
boundary bs i h k = IsCharBoundary-from_ascii bs i (ascii bs h) k

-- the escaped text of the first i characters and of the others
pub escape-parts : (i : ℕ) (bs : List ℕ) → flat_map escape (take i bs) ++ flat_map escape (drop i bs) ≡ flat_map escape bs
escape-parts zero bs = refl
escape-parts (suc i) [] = refl
escape-parts (suc i) (b ∷ bs) = append_assoc (escape b) (flat_map escape (take i bs)) (flat_map escape (drop i bs)) ∙ ap (λ (w : List ℕ). escape b ++ w) (escape-parts i bs)

pub escape-more : (i : ℕ) (bs : List ℕ) → i < length bs → flat_map escape (take (i + 1) bs) ≡ flat_map escape (take i bs) ++ escape (get_or bs i 0)
escape-more i bs h = rw add-one (more i bs h)
  where
    more : (i : ℕ) (bs : List ℕ) → i < length bs → flat_map escape (take (suc i) bs) ≡ flat_map escape (take i bs) ++ escape (get_or bs i 0)
    more i [] h = absurd (omega (arith, h))
    more zero (b ∷ bs) h = append-nil (escape b)
    more (suc i) (b ∷ bs) h = ap (λ (w : List ℕ). escape b ++ w) (more i bs (omega (arith, h))) ∙ sym (append_assoc (escape b) (flat_map escape (take i bs)) (escape (get_or bs i 0)))

-- the characters from start on, with one more
pub slice-more : (start i : ℕ) (bs : List ℕ) → start ≤ i → i < length bs → take (i + 1 - start) (drop start bs) ≡ take (i - start) (drop start bs) ++ get_or bs i 0 ∷ []
slice-more start i bs h k =
    let n : ℕ = i - start in
    let len : n < length (drop start bs) = omega (arith, h, k, length-drop start bs) in
    let e : i + 1 - start ≡ n + 1 = omega (arith, h) in
    let f : start + n ≡ i = omega (arith, h) in
    ap (λ (m : ℕ). take m (drop start bs)) e ∙ take_more (drop start bs) n 0 len
    ∙ ap (λ (c : ℕ). take n (drop start bs) ++ c ∷ []) (get_or-drop start bs n 0 ∙ ap (λ (m : ℕ). get_or bs m 0) f)

slice-one : (i : ℕ) (bs : List ℕ) → i < length bs → take (i + 1 - i) (drop i bs) ≡ get_or bs i 0 ∷ []
slice-one i bs h =
    let e : i + 1 - i ≡ 1 = omega arith in
    ap (λ (m : ℕ). take m (drop i bs)) e ∙ ap (take 1) (drop_more bs i 0 h)

slice-all : (start i : ℕ) (bs : List ℕ) → length bs ≤ i → take (i - start) (drop start bs) ≡ drop start bs
slice-all start i bs h = take_all (i - start) (drop start bs) (omega (arith, h, length-drop start bs))

-- what was sent of the escaped text: all but the characters from start on, with the `\` of the first
abbrev pub Escaped : Option (List ℕ) → Option (List ℕ) → ℕ → ℕ → List ℕ → Type 0
Escaped a b start i bs = (sent : List ℕ) × (sent ++ take (i - start) (drop start bs) ≡ flat_map escape (take i bs)) × Appends a b sent × (start ≤ i)

pub escape-first : (a : Option (List ℕ)) (bs : List ℕ) → Escaped a a 0 0 bs
escape-first a bs = ([], refl, appends-nothing a, omega arith)

pub escape-stays : (a b : Option (List ℕ)) (start i : ℕ) (bs : List ℕ) → Escaped a b start i bs → i < length bs → ((get_or bs i 0 == 39) || (get_or bs i 0 == 92)) ≡ false → Escaped a b start (i + 1) bs
escape-stays a b start i bs (sent, e, h, k) m plain =
    let c = get_or bs i 0 in (
      sent,
      ap (λ (w : List ℕ). sent ++ w) (slice-more start i bs k m) ∙ sym (append_assoc sent (take (i - start) (drop start bs)) (c ∷ [])) ∙ ap (λ (w : List ℕ). w ++ c ∷ []) e
          ∙ ap (λ (w : List ℕ). flat_map escape (take i bs) ++ w) (sym (if-false _ _ _ plain)) ∙ sym (escape-more i bs m),
      h,
      omega (arith, k),
    )

pub escape-turns : (a b z : Option (List ℕ)) (start i : ℕ) (bs : List ℕ) → Escaped a b start i bs → i < length bs → ((get_or bs i 0 == 39) || (get_or bs i 0 == 92)) ≡ true
    → Appends b z (take (i - start) (drop start bs) ++ 92 ∷ []) → Escaped a z i (i + 1) bs
escape-turns a b z start i bs (sent, e, h, k) l special y =
    let c = get_or bs i 0 in
    let slice : List ℕ = take (i - start) (drop start bs) in (
      sent ++ (slice ++ 92 ∷ []),
      ap (λ (w : List ℕ). (sent ++ (slice ++ 92 ∷ [])) ++ w) (slice-one i bs l)
          ∙ append_assoc sent (slice ++ 92 ∷ []) (c ∷ []) ∙ ap (λ (w : List ℕ). sent ++ w) (append_assoc slice (92 ∷ []) (c ∷ [])) ∙ sym (append_assoc sent slice (92 ∷ c ∷ []))
          ∙ ap (λ (w : List ℕ). w ++ 92 ∷ c ∷ []) e ∙ ap (λ (w : List ℕ). flat_map escape (take i bs) ++ w) (sym (if-true _ _ _ special)) ∙ sym (escape-more i bs l),
      appends-then a b z sent (slice ++ 92 ∷ []) h y,
      omega arith,
    )

-- the characters from the i-th on, if the first needs a `\`
special-rest : (i : ℕ) (bs : List ℕ) → i < length bs → ((get_or bs i 0 == 39) || (get_or bs i 0 == 92)) ≡ true → flat_map escape (drop i bs) ≡ (92 ∷ []) ++ (get_or bs i 0 ∷ flat_map escape (drop (i + 1) bs))
special-rest i bs h special = at_drop_more (flat_map escape) bs i 0 h ∙ ap (λ (w : List ℕ). w ++ flat_map escape (drop (i + 1) bs)) (if-true _ _ _ special)

pub piece-fails : (a b z : Option (List ℕ)) (start i : ℕ) (bs : List ℕ) → Escaped a b start i bs → i < length bs → ((get_or bs i 0 == 39) || (get_or bs i 0 == 92)) ≡ true
    → AppendsPrefix b z (take (i - start) (drop start bs) ++ 92 ∷ []) → AppendsPrefix a z (flat_map escape bs)
piece-fails a b z start i bs (sent, e, h, k) l special f =
    let slice : List ℕ = take (i - start) (drop start bs) in
    let rest : List ℕ = get_or bs i 0 ∷ flat_map escape (drop (i + 1) bs) in
    front-as a z (sent ++ ((slice ++ 92 ∷ []) ++ rest)) (flat_map escape bs)
    (ap (λ (w : List ℕ). sent ++ w) (append_assoc slice (92 ∷ []) rest) ∙ sym (append_assoc sent slice ((92 ∷ []) ++ rest))
    ∙ ap (λ (w : List ℕ). w ++ ((92 ∷ []) ++ rest)) e ∙ ap (λ (w : List ℕ). flat_map escape (take i bs) ++ w) (sym (special-rest i bs l special)) ∙ escape-parts i bs)
    (front-then a b z sent ((slice ++ 92 ∷ []) ++ rest) h (front-first b z (slice ++ 92 ∷ []) rest f))

pub escape-ends : {A E : Type 0} (a b z : Option (List ℕ)) (start i : ℕ) (bs : List ℕ) (r : Result A E) → Escaped a b start i bs → length bs ≤ i → AppendsOrPrefix b z (take (length bs - start) (drop start bs)) r → AppendsOrPrefix a z (flat_map escape bs) r
escape-ends a b z start i bs r (sent, e, h, k) l s =
    let whole : take (length bs - start) (drop start bs) ≡ drop start bs = take_all (length bs - start) (drop start bs) (omega (arith, length-drop start bs)) in
    sends-as a z (sent ++ drop start bs) (flat_map escape bs) r
    (ap (λ (w : List ℕ). sent ++ w) (sym (slice-all start i bs l)) ∙ e ∙ ap (flat_map escape) (take_all i bs l))
    (sends-then a b z sent (drop start bs) r h (sends-as b z _ (drop start bs) r whole s))

pub escape-same : (a b c : Option (List ℕ)) (start from i : ℕ) (bs : List ℕ) → c ≡ b → from ≡ start → Escaped a b start i bs → Escaped a c from i bs
escape-same a b c start from i bs e f h =
    let P : Option (List ℕ) → Type 0 = λ x. Escaped a x from i bs in
    let Q : ℕ → Type 0 = λ n. Escaped a b n i bs in
    subst P (sym e) (subst Q (sym f) h)
