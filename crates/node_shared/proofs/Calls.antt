-- The entries of several calls of a caller.
use Rattle.std.proofs.Common.{◌≡◌, ℕ, suc, ◌+◌, List, [], ◌∷◌, ◌++◌, length, refl, sym, ap, ◌∙◌, subst, arith, length-append}
use Rattle.node_core.specs.declared.limits.Limits.{Limits}
use Rattle.node_core.specs.declared.step.Step.TheVariants.{Ask}
use Rattle.node_core.specs.declared.step.Call.{Call}
use Rattle.node_core.specs.declared.step.Reply.{Reply}
use Rattle.node_shared.specs.declared.entry.Entry.{Entry}
use Rattle.node_shared.specs.Journal.{entry}
use Rattle.node_shared.specs.Serving.{CallerState, SeesMore, Continues, ContinuesBy}
use Rattle.node_shared.specs.Calling.{call_entries, HasAsked}
use Rattle.node_shared.proofs.Callers.{continues-after, continues-next}

-- one more call with its reply, where so far each call has one
entries-more : (p : ℕ) (cs after : List Call) (c : Call) (rs : List Reply) (r : Reply) → length rs ≡ length cs
    → call_entries p (cs ++ c ∷ after) (rs ++ r ∷ []) ≡ call_entries p (cs ++ c ∷ after) rs ++ entry (Ask p c) r ∷ []
entries-more p [] [] c [] r same = refl
entries-more p [] (x ∷ after) c [] r same = refl
entries-more p [] after c (x ∷ rs) r same = absurd (omega arith)
entries-more p (y ∷ cs) after c [] r same = absurd (omega arith)
entries-more p (y ∷ cs) after c (x ∷ rs) r same =
    let short : length rs ≡ length cs = omega arith in
    ap (λ (es : List Entry). entry (Ask p y) x ∷ es) (entries-more p cs after c rs r short)

none-made : (p : ℕ) (calls : List Call) → call_entries p calls [] ≡ []
none-made p [] = refl
none-made p (c ∷ cs) = refl

pub ask-none : (limits : Limits) (old new : CallerState) (calls : List Call) → Continues limits old [] new → HasAsked limits old calls [] new
ask-none limits old new calls did = (omega arith, subst (λ (es : List Entry). Continues limits old es new) (sym (none-made old.own.pid calls)) did)

-- calls after the caller saw more
pub ask-after : (limits : Limits) (old now new : CallerState) (calls : List Call) (rs : List Reply) → SeesMore old now → HasAsked limits now calls rs new → HasAsked limits old calls rs new
ask-after limits old now new calls rs more did =
    let at : Continues limits now (call_entries old.own.pid calls rs) new = subst (λ (p : ℕ). Continues limits now (call_entries p calls rs) new) (ap (λ o. o.pid) more.own) did.1 in
    (did.0, continues-after limits old now new (call_entries old.own.pid calls rs) more at)

-- the next call is the first after those that have a reply
pub ask-next : (limits : Limits) (old now new : CallerState) (before after : List Call) (c : Call) (calls : List Call) (rs : List Reply) (r : Reply)
    → before ++ c ∷ after ≡ calls → length rs ≡ length before → HasAsked limits old calls rs now
    → ContinuesBy limits now (Ask now.own.pid c) r new → new.seen ≡ now.seen ++ entry (Ask now.own.pid c) r ∷ [] → HasAsked limits old calls (rs ++ r ∷ []) new
ask-next limits old now new before after c calls rs r is same was last seen =
    let p = old.own.pid in
    let same_pid : now.own.pid ≡ p = ap (λ o. o.pid) was.1.own in
    let more : call_entries p calls (rs ++ r ∷ []) ≡ call_entries p calls rs ++ entry (Ask p c) r ∷ [] =
    subst (λ (l : List Call). call_entries p l (rs ++ r ∷ []) ≡ call_entries p l rs ++ entry (Ask p c) r ∷ []) is (entries-more p before after c rs r same) in
    let long : length before + length (c ∷ after) ≡ length calls = sym (length-append before (c ∷ after)) ∙ ap length is in
    let one : length (c ∷ after) ≡ suc (length after) = refl in
    let longer = length-append rs (r ∷ []) in
    let last' : ContinuesBy limits now (Ask p c) r new = subst (λ (q : ℕ). ContinuesBy limits now (Ask q c) r new) same_pid last in
    let seen' : new.seen ≡ now.seen ++ entry (Ask p c) r ∷ [] = subst (λ (q : ℕ). new.seen ≡ now.seen ++ entry (Ask q c) r ∷ []) same_pid seen in
    (omega (arith, long, one, longer, same), subst (λ (es : List Entry). Continues limits old es new) (sym more) (continues-next limits old now new (call_entries p calls rs) (Ask p c) r was.1 last' seen'))
