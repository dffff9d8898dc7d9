-- Texts that are sent in pieces.
use Rattle.std.proofs.Common.{◌≡◌, ap, sym, subst, ◌∙◌, ℕ, List, [], ◌∷◌, ◌++◌, ◌+◌, ◌<◌, ◌≤◌, length, length-append, arith, take, drop, get_or, map, Bool, true, append_assoc, Option, None, Some, Result, Ok, Err, IsErr, is_err}
use Rattle.std.proofs.lemmas.Bool.{false≢true}
use Rattle.std.proofs.lemmas.List.{append-nil, drop_more, drop_all}
use Rattle.std.specs.Io.KnownBytes.{Appends, Keeps}
use Rattle.std.proofs.Math.Seq.{take-append_seam}
use Rattle.std.specs.Str.{IsUtf8}
use Rattle.std.specs.String.Boundary.{IsSplitPoint}
use Rattle.std.proofs.lemmas.Str.{IsCharBoundary-from_take}
use Rattle.term_text.specs.Printed.{join_with_commas, comma_if}
use Rattle.term_text.specs.Sent.{AppendsPrefix, AppendsOrPrefix}

pub appends-then : (a b c : Option (List ℕ)) (x y : List ℕ) → Appends a b x → Appends b c y → Appends a c (x ++ y)
appends-then None b c x y h k = tt
appends-then (Some p) None c x y h k = absurd h
appends-then (Some p) (Some q) None x y h k = absurd k
appends-then (Some p) (Some q) (Some r) x y h k = k ∙ ap (λ (w : List ℕ). w ++ y) h ∙ append_assoc p x y

-- after a fault in the first piece
pub front-first : (a b : Option (List ℕ)) (x y : List ℕ) → AppendsPrefix a b x → AppendsPrefix a b (x ++ y)
front-first a b x y (sent, rest, e, h) = (sent, rest ++ y, ap (λ (w : List ℕ). w ++ y) e ∙ append_assoc sent rest y, h)

-- after a fault in a later piece
pub front-then : (a b c : Option (List ℕ)) (x y : List ℕ) → Appends a b x → AppendsPrefix b c y → AppendsPrefix a c (x ++ y)
front-then a b c x y h (sent, rest, e, k) = (x ++ sent, rest, ap (λ (w : List ℕ). x ++ w) e ∙ sym (append_assoc x sent rest), appends-then a b c x sent h k)

pub sends-fault : {A E : Type 0} (a b : Option (List ℕ)) (x : List ℕ) (r : Result A E) → IsErr r → AppendsPrefix a b x → AppendsOrPrefix a b x r
sends-fault a b x (Ok v) e h = absurd (false≢true e)
sends-fault a b x (Err f) e h = h

pub sends-then : {A E : Type 0} (a b c : Option (List ℕ)) (x y : List ℕ) (r : Result A E) → Appends a b x → AppendsOrPrefix b c y r → AppendsOrPrefix a c (x ++ y) r
sends-then a b c x y (Ok v) h k = appends-then a b c x y h k
sends-then a b c x y (Err f) h k = front-then a b c x y h k

pub appends-nothing : (a : Option (List ℕ)) → Appends a a []
appends-nothing None = tt
appends-nothing (Some p) = sym (append-nil p)

pub front-as : (a b : Option (List ℕ)) (x y : List ℕ) → x ≡ y → AppendsPrefix a b x → AppendsPrefix a b y
front-as a b x y e h = let P : List ℕ → Type 0 = λ w. AppendsPrefix a b w in subst P e h

pub appends-as : (a b : Option (List ℕ)) (x y : List ℕ) → x ≡ y → Appends a b x → Appends a b y
appends-as a b x y e h = let P : List ℕ → Type 0 = λ w. Appends a b w in subst P e h

-- texts separated by commas, of which the first were sent
abbrev pub Rows : {X : Type 0} → Option (List ℕ) → Option (List ℕ) → (X → List ℕ) → Bool → List X → List ℕ → Type 0
Rows a b f later xs whole = (sent : List ℕ) × (sent ++ join_with_commas later (map f xs) ≡ whole) × Appends a b sent

pub rows-comma : {X : Type 0} (a b c : Option (List ℕ)) (f : X → List ℕ) (later : Bool) (x : X) (xs : List X) (whole : List ℕ)
    → Rows a b f later (x ∷ xs) whole → AppendsPrefix b c (comma_if later) → AppendsPrefix a c whole
rows-comma a b c f later x xs whole (sent, e, h) k = front-as a c _ whole e (front-then a b c sent _ h (front-first b c (comma_if later) _ k))

pub rows-item : {X : Type 0} (a b m c : Option (List ℕ)) (f : X → List ℕ) (later : Bool) (x : X) (xs : List X) (whole : List ℕ)
    → Rows a b f later (x ∷ xs) whole → Appends b m (comma_if later) → AppendsPrefix m c (f x) → AppendsPrefix a c whole
rows-item a b m c f later x xs whole (sent, e, h) j k = front-as a c _ whole e (front-then a b c sent _ h (front-then b m c (comma_if later) _ j (front-first m c (f x) _ k)))

pub rows-more : {X : Type 0} (a b m c : Option (List ℕ)) (f : X → List ℕ) (later : Bool) (x : X) (xs : List X) (whole : List ℕ)
    → Rows a b f later (x ∷ xs) whole → Appends b m (comma_if later) → Appends m c (f x) → Rows a c f true xs whole
rows-more a b m c f later x xs whole (sent, e, h) j k =
    let now : List ℕ = comma_if later ++ f x in (
      sent ++ now,
      append_assoc sent now (join_with_commas true (map f xs)) ∙ ap (λ (w : List ℕ). sent ++ w) (append_assoc (comma_if later) (f x) (join_with_commas true (map f xs))) ∙ e,
      appends-then a b c sent now h (appends-then b m c (comma_if later) (f x) j k),
    )

pub rows-done : {X : Type 0} (a b : Option (List ℕ)) (f : X → List ℕ) (later : Bool) (whole : List ℕ) → Rows a b f later [] whole → Appends a b whole
rows-done a b f later whole (sent, e, h) = appends-as a b sent whole (sym (append-nil sent) ∙ e) h

-- the next of the texts
pub rows-here : {X : Type 0} (a b : Option (List ℕ)) (f : X → List ℕ) (later : Bool) (xs : List X) (i : ℕ) (d : X) (whole : List ℕ) → i < length xs
    → Rows a b f later (drop i xs) whole → Rows a b f later (get_or xs i d ∷ drop (i + 1) xs) whole
rows-here a b f later xs i d whole h rows = let P : List _ → Type 0 = λ ys. Rows a b f later ys whole in subst P (drop_more xs i d h) rows

-- no text is left
pub rows-end : {X : Type 0} (a b : Option (List ℕ)) (f : X → List ℕ) (later : Bool) (xs : List X) (i : ℕ) (whole : List ℕ) → length xs ≤ i
    → Rows a b f later (drop i xs) whole → Appends a b whole
rows-end a b f later xs i whole h rows = let P : List _ → Type 0 = λ ys. Rows a b f later ys whole in rows-done a b f later whole (subst P (drop_all i xs h) rows)

pub rows-at : {X : Type 0} (a b : Option (List ℕ)) (f : X → List ℕ) (later : Bool) (xs : List X) (i : ℕ) (x : X) (whole : List ℕ) → i < length xs → get_or xs i x ≡ x
    → Rows a b f later (drop i xs) whole → Rows a b f later (x ∷ drop (i + 1) xs) whole
rows-at a b f later xs i x whole h e rows = let P : List _ → Type 0 = λ ys. Rows a b f later ys whole in subst P (drop_more xs i x h ∙ ap (λ (y : _). y ∷ drop (i + 1) xs) e) rows

-- a row between two signs: a comma fails, a text fails, or all is sent up to the closing sign
pub row-comma-fails : {X A E : Type 0} (a b c d : Option (List ℕ)) (f : X → List ℕ) (later : Bool) (x : X) (xs : List X) (front row back : List ℕ) (r : Result A E) → IsErr r
    → Appends a b front → Rows b c f later (x ∷ xs) row → AppendsPrefix c d (comma_if later) → AppendsOrPrefix a d (front ++ (row ++ back)) r
row-comma-fails a b c d f later x xs front row back r e h rows k =
    sends-fault a d _ r e (front-then a b d front (row ++ back) h (front-first b d row back (rows-comma b c d f later x xs row rows k)))

pub row-item-fails : {X A E : Type 0} (a b c m d : Option (List ℕ)) (f : X → List ℕ) (later : Bool) (x : X) (xs : List X) (front row back : List ℕ) (r : Result A E) → IsErr r
    → Appends a b front → Rows b c f later (x ∷ xs) row → Appends c m (comma_if later) → AppendsPrefix m d (f x) → AppendsOrPrefix a d (front ++ (row ++ back)) r
row-item-fails a b c m d f later x xs front row back r e h rows j k =
    sends-fault a d _ r e (front-then a b d front (row ++ back) h (front-first b d row back (rows-item b c m d f later x xs row rows j k)))

pub row-sent : {X A E : Type 0} (a b c d : Option (List ℕ)) (f : X → List ℕ) (later : Bool) (xs : List X) (i : ℕ) (front row back : List ℕ) (r : Result A E) → length xs ≤ i
    → Appends a b front → Rows b c f later (drop i xs) row → AppendsOrPrefix c d back r → AppendsOrPrefix a d (front ++ (row ++ back)) r
row-sent a b c d f later xs i front row back r past h rows k =
    sends-then a b d front (row ++ back) r h (sends-then b c d row back r (rows-end b c f later xs i row past rows) k)

pub sends-as : {A E : Type 0} (a b : Option (List ℕ)) (x y : List ℕ) (r : Result A E) → x ≡ y → AppendsOrPrefix a b x r → AppendsOrPrefix a b y r
sends-as a b x y r e h = let P : List ℕ → Type 0 = λ w. AppendsOrPrefix a b w r in subst P e h

pub appends-keeps : (a b c : Option (List ℕ)) (x : List ℕ) → Appends a b x → Keeps b c → Appends a c x
appends-keeps None b c x h k = tt
appends-keeps (Some p) None c x h k = absurd h
appends-keeps (Some p) (Some q) None x h k = absurd k
appends-keeps (Some p) (Some q) (Some r) x h k = k ∙ h

-- the old end of the string is the end of a character
pub front-boundary : (old new text : List ℕ) → IsUtf8 old → IsUtf8 new → AppendsPrefix (Some old) (Some new) text → IsSplitPoint new (length old)
front-boundary old new text u v (sent, rest, e, h) =
    let le : length old ≤ length new = omega (arith, ap length h, length-append old sent) in
    let P : List ℕ → Type 0 = λ bs. IsUtf8 bs in
    let front : old ≡ take (length old) new = sym (ap (take (length old)) h ∙ take-append_seam old sent) in
    let b = IsCharBoundary-from_take new (length old) v le (subst P front u) in
    (le, λ _. b.1)

pub sends-front : {A E : Type 0} (a b : Option (List ℕ)) (x : List ℕ) (r : Result A E) → is_err r ≡ true → AppendsOrPrefix a b x r → AppendsPrefix a b x
sends-front a b x (Ok v) e h = absurd (false≢true e)
sends-front a b x (Err f) e h = h
