-- A record that grows by jobs.
use Rattle.std.proofs.Common.{◌≡◌, ℕ, suc, ◌+◌, ◌-◌, ◌<◌, List, [], ◌∷◌, ◌++◌, map, length, take, get_or, refl, sym, ap, ◌∙◌, arith, append_assoc, length-append}
use Rattle.std.proofs.Math.Seq.{get_or-append_seam}
use Rattle.std.proofs.lemmas.List.{map_more, map-append}
use Rattle.std.proofs.lemmas.Grind.{common_steps}
use Rattle.std.specs.declared.vec.Vec.{Vec}
use Rattle.std.specs.declared.alloc.Global.{Global}
use Rattle.node_core.specs.declared.step.Step.{Step}
use Rattle.node_shared.specs.declared.job.Job.{Job}
use Rattle.node_shared.specs.declared.job.Worked.{Worked}
use Rattle.node_shared.specs.Journal.{entry}
use Rattle.node_shared.specs.Records.{RecordState}
use Rattle.node_shared.specs.declared.entry.Entry.{Entry}
use Rattle.node_shared.specs.Working.{job_step, DidAll, AllWorked}
use Rattle.node_shared.specs.inside.Steps.{DidJob}

abbrev step_of : Entry → Step
step_of e = e.step

pub did-none : (old : RecordState) (jobs : List Job) (left : ℕ) → left ≡ length jobs → DidAll old jobs left old
did-none old jobs left all =
    let none : length jobs - left ≡ 0 = omega arith in
    (omega arith, ([], grind (arith, common_steps), rw none refl))

did-more : (old now new : RecordState) (jobs : List Job) (left call : ℕ) (j : Job) → j ≡ get_or jobs call j → left + call ≡ length jobs → call < length jobs → DidAll old jobs left now → DidJob now j new → DidAll old jobs (left - 1) new
did-more old now new jobs left call j item sum lt did one =
    let es = did.1.0 in
    let e = entry (job_step now.pid j) one.0 in
    let pid : now.pid ≡ old.pid = ap (λ (t : RecordState). t.pid) did.1.1 in
    let is_longer : now.entries ≡ old.entries ++ es = ap (λ (t : RecordState). t.entries) did.1.1 in
    let before : length jobs - left ≡ call = omega arith in
    let after : length jobs - (left - 1) ≡ call + 1 = omega arith in
    let more : map (job_step old.pid) (take (call + 1) jobs) ≡ map (job_step old.pid) (take call jobs) ++ job_step old.pid (get_or jobs call j) ∷ [] = map_more (job_step old.pid) jobs call j lt in
    let grown : now.entries ++ e ∷ [] ≡ old.entries ++ (es ++ e ∷ []) = ap (λ l. l ++ e ∷ []) is_longer ∙ append_assoc old.entries es (e ∷ []) in
    let new_is : new ≡ record old { entries = old.entries ++ (es ++ e ∷ []) } = one.1 ∙ (λ i. record { pid = pid i; entries = grown i }) in
    let was : map step_of es ≡ map (job_step old.pid) (take call jobs) = rw before at did.1.2 in
    let last : job_step now.pid j ≡ job_step old.pid (get_or jobs call j) = ap (λ (p : ℕ). job_step p j) pid ∙ ap (job_step old.pid) item in
    let steps : map step_of (es ++ e ∷ []) ≡ map (job_step old.pid) (take (call + 1) jobs) =
    map-append step_of es (e ∷ []) ∙ (λ i. was i ++ last i ∷ []) ∙ sym more in
    (omega arith, (es ++ e ∷ [], new_is, rw after steps))

-- the next job is the first after those that were done
pub did-next : (old now new : RecordState) (before after : List Job) (j : Job) (jobs : List Job) (left : ℕ) → before ++ j ∷ after ≡ jobs → left + length before ≡ length jobs → DidAll old jobs left now → DidJob now j new → DidAll old jobs (left - 1) new
did-next old now new before after j jobs left is sum did done =
    let item : j ≡ get_or jobs (length before) j = sym (get_or-append_seam before j after j) ∙ ap (λ l. get_or l (length before) j) is in
    let more : length (j ∷ after) ≡ suc (length after) = refl in
    let all : length jobs ≡ length before + length (j ∷ after) = sym (ap length is) ∙ length-append before (j ∷ after) in
    did-more old now new jobs left (length before) j item sum (omega (arith, all, more)) did done

pub all-append : {T : Type 0} (xs ys : List (RecordState × Vec Job Global)) (us vs : List (Worked T)) → AllWorked xs us → AllWorked ys vs → AllWorked (xs ++ ys) (us ++ vs)
all-append [] ys [] vs a b = b
all-append [] ys (u ∷ us) vs a b = absurd a
all-append (x ∷ xs) ys [] vs a b = absurd a
all-append (x ∷ xs) ys (u ∷ us) vs a b = (a.0, all-append xs ys us vs a.1 b)
