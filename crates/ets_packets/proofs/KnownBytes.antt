-- Known bytes: what a writer took and a reader gave, one piece after another.
use Rattle.std.proofs.Common.{ℕ, List, [], ◌++◌, refl, sym, ap, subst, ◌∙◌, Option, Some, None, append-nil, append_assoc}
use Rattle.std.specs.Prelude.{Result, Ok, Err, OnOk, OnErr}
use Rattle.std.specs.Io.KnownBytes.{Appends, Consumes, Keeps}
use Rattle.ets_packets.specs.Traffic.{Flow}
use Rattle.ets_packets.specs.Output.{Sends, Breaks}

-- what passed between these
abbrev pub between : Option (List ℕ) → Option (List ℕ) → Flow
between before after = record { before = before; after = after }

pub appends-more : (a b c : Option (List ℕ)) (xs ys : List ℕ) → Appends a b xs → Appends b c ys → Appends a c (xs ++ ys)
appends-more None b c xs ys p q = tt
appends-more (Some l) None c xs ys p q = absurd p
appends-more (Some l) (Some m) None xs ys p q = absurd q
appends-more (Some l) (Some m) (Some n) xs ys p q = q ∙ ap (λ k. k ++ ys) p ∙ append_assoc l xs ys

pub appends-kept : (a b c : Option (List ℕ)) (xs : List ℕ) → Appends a b xs → Keeps b c → Appends a c xs
appends-kept None b c xs p q = tt
appends-kept (Some l) None c xs p q = absurd p
appends-kept (Some l) (Some m) None xs p q = absurd q
appends-kept (Some l) (Some m) (Some n) xs p q = q ∙ p

pub appends-same : (a : Option (List ℕ)) → Appends a a []
appends-same None = tt
appends-same (Some l) = sym (append-nil l)

-- all of it went out
pub sends-all : (a b : Option (List ℕ)) (whole : List ℕ) → Appends a b whole → Sends (between a b) whole []
sends-all a b whole p = record { sent = whole; written = p; parts = sym (append-nil whole) }

pub sends-none : (a : Option (List ℕ)) (whole : List ℕ) → Sends (between a a) whole whole
sends-none a whole = record { sent = []; written = appends-same a; parts = refl }

pub sends-more : (a b c : Option (List ℕ)) (whole waiting more later : List ℕ) → Sends (between a b) whole waiting → Sends (between b c) (waiting ++ more) later
    → Sends (between a c) (whole ++ more) later
sends-more a b c whole waiting more later p q = record {
  sent = p.sent ++ q.sent;
  written = appends-more a b c p.sent q.sent p.written q.written;
  parts = ap (λ l. l ++ more) p.parts ∙ append_assoc p.sent waiting more ∙ ap (λ l. p.sent ++ l) q.parts ∙ sym (append_assoc p.sent q.sent later);
}

pub breaks-more : (a b c : Option (List ℕ)) (whole waiting more : List ℕ) → Sends (between a b) whole waiting → Breaks (between b c) (waiting ++ more)
    → Breaks (between a c) (whole ++ more)
breaks-more a b c whole waiting more p q = record {
  sent = p.sent ++ q.sent;
  unsent = q.unsent;
  written = appends-more a b c p.sent q.sent p.written q.written;
  parts = ap (λ l. l ++ more) p.parts ∙ append_assoc p.sent waiting more ∙ ap (λ l. p.sent ++ l) q.parts ∙ sym (append_assoc p.sent q.sent q.unsent);
}

pub breaks-longer : (a b : Option (List ℕ)) (whole more : List ℕ) → Breaks (between a b) whole → Breaks (between a b) (whole ++ more)
breaks-longer a b whole more p = record {
  sent = p.sent;
  unsent = p.unsent ++ more;
  written = p.written;
  parts = ap (λ l. l ++ more) p.parts ∙ append_assoc p.sent p.unsent more;
}

pub consumes-more : (a b c : Option (List ℕ)) (xs ys : List ℕ) → Consumes a b xs → Consumes b c ys → Consumes a c (xs ++ ys)
consumes-more None b c xs ys p q = tt
consumes-more (Some l) None c xs ys p q = absurd p
consumes-more (Some l) (Some m) None xs ys p q = absurd q
consumes-more (Some l) (Some m) (Some n) xs ys p q = p ∙ ap (λ k. xs ++ k) q ∙ sym (append_assoc xs ys n)

pub on-ok : {T E A B : Type 0} (r : Result T E) → (A → B) → OnOk r A → OnOk r B
on-ok (Ok x) f a = f a
on-ok (Err e) f a = tt

pub on-err : {T E A B : Type 0} (r : Result T E) → (A → B) → OnErr r A → OnErr r B
on-err (Ok x) f a = tt
on-err (Err e) f a = f a

-- a text that was sent, and one after it of which all or a prefix was written
pub sends-behind : (a b c : Option (List ℕ)) (whole more : List ℕ) → Appends a b whole → Appends b c more → Sends (between a c) (whole ++ more) []
sends-behind a b c whole more p q = sends-all a c (whole ++ more) (appends-more a b c whole more p q)

pub breaks-behind : (a b c : Option (List ℕ)) (whole more : List ℕ) → Appends a b whole → Breaks (between b c) more → Breaks (between a c) (whole ++ more)
breaks-behind a b c whole more p q = breaks-more a b c whole [] more (sends-all a b whole p) q

-- the buffered text was sent on
pub sends-on : (a b c : Option (List ℕ)) (whole waiting later : List ℕ) → Sends (between a b) whole waiting → Sends (between b c) waiting later → Sends (between a c) whole later
sends-on a b c whole waiting later p q = record {
  sent = p.sent ++ q.sent;
  written = appends-more a b c p.sent q.sent p.written q.written;
  parts = p.parts ∙ ap (λ l. p.sent ++ l) q.parts ∙ sym (append_assoc p.sent q.sent later);
}

pub breaks-on : (a b c : Option (List ℕ)) (whole waiting : List ℕ) → Sends (between a b) whole waiting → Breaks (between b c) waiting → Breaks (between a c) whole
breaks-on a b c whole waiting p q = record {
  sent = p.sent ++ q.sent;
  unsent = q.unsent;
  written = appends-more a b c p.sent q.sent p.written q.written;
  parts = p.parts ∙ ap (λ l. p.sent ++ l) q.parts ∙ sym (append_assoc p.sent q.sent q.unsent);
}

-- one text after another
pub sends-two : (a b c : Option (List ℕ)) (p x q y r : List ℕ) → Sends (between a b) (p ++ x) q → Sends (between b c) (q ++ y) r → Sends (between a c) (p ++ (x ++ y)) r
sends-two a b c p x q y r s t = subst (λ (k : List ℕ). Sends (between a c) k r) (append_assoc p x y) (sends-more a b c (p ++ x) q y r s t)

pub breaks-first : (a b : Option (List ℕ)) (p x y : List ℕ) → Breaks (between a b) (p ++ x) → Breaks (between a b) (p ++ (x ++ y))
breaks-first a b p x y s = subst (λ (k : List ℕ). Breaks (between a b) k) (append_assoc p x y) (breaks-longer a b (p ++ x) y s)

pub breaks-two : (a b c : Option (List ℕ)) (p x q y : List ℕ) → Sends (between a b) (p ++ x) q → Breaks (between b c) (q ++ y) → Breaks (between a c) (p ++ (x ++ y))
breaks-two a b c p x q y s t = subst (λ (k : List ℕ). Breaks (between a c) k) (append_assoc p x y) (breaks-more a b c (p ++ x) q y s t)

pub same-known : (a : Option (List ℕ)) → Consumes a a []
same-known None = tt
same-known (Some x) = refl

pub kept-left : (a l m : Option (List ℕ)) (xs : List ℕ) → Consumes a l xs → Keeps l m → Consumes a m xs
kept-left None l m xs p q = tt
kept-left (Some x) None m xs p q = absurd p
kept-left (Some x) (Some y) None xs p q = absurd q
kept-left (Some x) (Some y) (Some z) xs p q = p ∙ ap (λ k. xs ++ k) (sym q)
