-- Texts that are printed one after another.
use Rattle.std.proofs.Common.{◌≡◌, ℕ, zero, suc, ◌+◌, ◌≤◌, ◌<◌, List, [], ◌∷◌, ◌++◌, length, drop, get_or, flat_map, refl, sym, ap, ◌∙◌, subst, Option, append-nil, append_assoc}
use Rattle.std.proofs.lemmas.List.{drop_more, drop_all}
use Rattle.std.specs.Prelude.{Some, codes, slice_index_or, Result, Ok, Err, OnOk, OnErr}
use Rattle.std.specs.Io.KnownBytes.{Appends}
use Rattle.node_shared.specs.declared.entry.Entry.{Entry}
use Rattle.node_shared.specs.Journal.{process_of}
use Rattle.ets_packets.specs.Output.{Sends, Breaks}
use Rattle.ets_packets.proofs.KnownBytes.{between, sends-on, sends-two, sends-none, breaks-on, breaks-first, breaks-two}
use Rattle.ets_script.specs.Replies.{reply_text}
use Rattle.ets_script.specs.Threads.{line_of, own_text, entry_text, stopped_text}
use Rattle.ets_script.specs.inside.Journal.{stop_text}

-- of a text after the buffered text all but this rest was printed
pub record Printed (a : Option (List ℕ)) (p whole : List ℕ) (b : Option (List ℕ)) (q rest : List ℕ) : Type 0 where
  pub front : List ℕ
  pub parts : whole ≡ front ++ rest
  pub sent : Sends (between a b) (p ++ front) q

pub printed-none : (a : Option (List ℕ)) (p whole : List ℕ) → Printed a p whole a p whole
printed-none a p whole = record { front = []; parts = refl; sent = subst (λ (k : List ℕ). Sends (between a a) k p) (sym (append-nil p)) (sends-none a p) }

pub printed-more : (a b c : Option (List ℕ)) (p whole q r rest text later : List ℕ) → Printed a p whole b q rest → rest ≡ text ++ later → Sends (between b c) (q ++ text) r → Printed a p whole c r later
printed-more a b c p whole q r rest text later g is sent = record {
  front = g.front ++ text;
  parts = g.parts ∙ ap (λ k. g.front ++ k) is ∙ sym (append_assoc g.front text later);
  sent = sends-two a b c p g.front q text r g.sent sent;
}

pub printed-all : (a b : Option (List ℕ)) (p whole q rest : List ℕ) → Printed a p whole b q rest → rest ≡ [] → Sends (between a b) (p ++ whole) q
printed-all a b p whole q rest g is = subst (λ (k : List ℕ). Sends (between a b) (p ++ k) q) (sym (g.parts ∙ ap (λ k. g.front ++ k) is ∙ append-nil g.front)) g.sent

pub printed-broken : (a b c : Option (List ℕ)) (p whole q rest text later : List ℕ) → Printed a p whole b q rest → rest ≡ text ++ later → Breaks (between b c) (q ++ text) → Breaks (between a c) (p ++ whole)
printed-broken a b c p whole q rest text later g is broken =
    let parts : g.front ++ (text ++ later) ≡ whole = sym (g.parts ∙ ap (λ k. g.front ++ k) is) in
    subst (λ (k : List ℕ). Breaks (between a c) (p ++ k)) (append_assoc g.front text later ∙ parts) (breaks-first a c p (g.front ++ text) later (breaks-two a b c p g.front q text g.sent broken))

-- a name and a space, and what follows them
pub line-sent : (a b c : Option (List ℕ)) (p name space q answer r : List ℕ) → Sends (between a b) (p ++ (name ++ space)) q → Sends (between b c) (q ++ answer) r → Sends (between a c) (p ++ (name ++ (space ++ answer))) r
line-sent a b c p name space q answer r s t = subst (λ (k : List ℕ). Sends (between a c) (p ++ k) r) (append_assoc name space answer) (sends-two a b c p (name ++ space) q answer r s t)

pub line-first : (a b : Option (List ℕ)) (p name space answer : List ℕ) → Breaks (between a b) (p ++ (name ++ space)) → Breaks (between a b) (p ++ (name ++ (space ++ answer)))
line-first a b p name space answer s = subst (λ (k : List ℕ). Breaks (between a b) (p ++ k)) (append_assoc name space answer) (breaks-first a b p (name ++ space) answer s)

pub line-broken : (a b c : Option (List ℕ)) (p name space q answer : List ℕ) → Sends (between a b) (p ++ (name ++ space)) q → Breaks (between b c) (q ++ answer) → Breaks (between a c) (p ++ (name ++ (space ++ answer)))
line-broken a b c p name space q answer s t = subst (λ (k : List ℕ). Breaks (between a c) (p ++ k)) (append_assoc name space answer) (breaks-two a b c p (name ++ space) q answer s t)

-- the texts of items from one on
pub items-at : {X : Type 0} (f : X → List ℕ) (xs : List X) (i : ℕ) (x : X) → i < length xs → get_or xs i x ≡ x → flat_map f (drop i xs) ≡ f x ++ flat_map f (drop (i + 1) xs)
items-at f xs i x h e = ap (λ ys. flat_map f ys) (drop_more xs i x h ∙ ap (λ y. y ∷ drop (i + 1) xs) e)

stopped-first : (name : List ℕ) (names : List (List ℕ)) (n : ℕ) (left : List ℕ) → stopped_text (name ∷ names) (n ∷ left) ≡ stop_text name n ++ stopped_text names left
stopped-first name names zero left = refl
stopped-first name names (suc n) left = refl

pub stopped-at : (names : List (List ℕ)) (left : List ℕ) (i : ℕ) (name : List ℕ) → i < length left → i < length names → name ≡ get_or names i []
    → stopped_text (drop i names) (drop i left) ≡ stop_text name (get_or left i 0) ++ stopped_text (drop (i + 1) names) (drop (i + 1) left)
stopped-at names left i name h hn is =
    ap (λ ns. stopped_text ns (drop i left)) (drop_more names i [] hn ∙ ap (λ y. y ∷ drop (i + 1) names) (sym is)) ∙ ap (λ l. stopped_text (name ∷ drop (i + 1) names) l) (drop_more left i 0 h)
    ∙ stopped-first name (drop (i + 1) names) (get_or left i 0) (drop (i + 1) left)

stopped-none : (names : List (List ℕ)) → stopped_text names [] ≡ []
stopped-none [] = refl
stopped-none (name ∷ names) = refl

pub stopped-end : (names : List (List ℕ)) (left : List ℕ) (i : ℕ) → length left ≤ i → stopped_text (drop i names) (drop i left) ≡ []
stopped-end names left i h = ap (λ l. stopped_text (drop i names) l) (drop_all i left h) ∙ stopped-none (drop i names)

pub stop-text-some : (name : List ℕ) (n : ℕ) → (n ≡ 0 → ⊥) → stop_text name n ≡ name ++ (codes " " ++ codes "** nomem\n")
stop-text-some name zero some = absurd (some refl)
stop-text-some name (suc n) some = refl

pub entry-text-own : (names : List (List ℕ)) (e : Entry) (p : ℕ) (name : List ℕ) → process_of e.step ≡ Some p → name ≡ slice_index_or names p [] → entry_text names e ≡ name ++ (codes " " ++ (reply_text e.reply ++ codes "\n"))
entry-text-own names e p name is named = ap (λ (o : Option ℕ). own_text names o e.reply) is ∙ ap (λ (k : List ℕ). line_of k (reply_text e.reply)) (sym named)

-- a whole text was printed after nothing, and the buffer is written
pub out-ok : {T E : Type 0} (r : Result T E) (a b c : Option (List ℕ)) (p text q s : List ℕ) → p ≡ [] → Sends (between a b) (p ++ text) q → OnOk r (Sends (between b c) q s) → OnOk r (s ≡ []) → OnOk r (Appends a c text)
out-ok (Ok x) a b c p text q s none first last empty =
    let all = subst (λ (k : List ℕ). Sends (between a c) (p ++ text) k) empty (sends-on a b c (p ++ text) q s first last) in
    subst (λ (k : List ℕ). Appends a c k) (sym (all.parts ∙ append-nil all.sent) ∙ ap (λ k. k ++ text) none) all.written
out-ok (Err e) a b c p text q s none first last empty = tt

pub out-broken : (a b : Option (List ℕ)) (p text : List ℕ) → p ≡ [] → Breaks (between a b) (p ++ text) → Breaks (between a b) text
out-broken a b p text none broken = subst (λ (k : List ℕ). Breaks (between a b) k) (ap (λ k. k ++ text) none) broken

pub out-err : {T E : Type 0} (r : Result T E) (a b c : Option (List ℕ)) (p text q : List ℕ) → p ≡ [] → Sends (between a b) (p ++ text) q → OnErr r (Breaks (between b c) q) → OnErr r (Breaks (between a c) text)
out-err (Ok x) a b c p text q none first broken = tt
out-err (Err e) a b c p text q none first broken = out-broken a c p text none (breaks-on a b c (p ++ text) q first broken)
