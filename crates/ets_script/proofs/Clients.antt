-- The clients of a script, from the enrolment of their processes to the end of their jobs.
use Rattle.std.proofs.Common.{◌≡◌, ℕ, suc, ◌+◌, ◌-◌, ◌<◌, ◌≤◌, ◌||◌, ◌==◌, Bool, true, false, List, [], ◌∷◌, ◌++◌, map, take, length, refl, sym, ap, ◌∙◌, subst, arith}
use Rattle.std.specs.Prelude.{Ok, Err, Result, IfErr}
use Rattle.std.specs.Result.{IsErrAnd}
use Rattle.std.specs.List.{AllByRecursion}
use Rattle.std.specs.declared.vec.Vec.{Vec}
use Rattle.std.specs.declared.alloc.Global.{Global}
use Rattle.std.proofs.lemmas.Bool.Decides.{Decides-eqb}
use Rattle.node_core.specs.declared.limits.Limits.{Limits}
use Rattle.node_core.specs.declared.step.Step.{Step}
use Rattle.node_core.specs.declared.step.Step.TheVariants.{Enrol}
use Rattle.node_shared.specs.declared.entry.Entry.{Entry}
use Rattle.node_shared.specs.declared.job.Job.{Job}
use Rattle.node_shared.specs.declared.job.Worked.{Worked}
use Rattle.node_shared.specs.declared.transcript.Transcript.{Transcript}
use Rattle.node_shared.specs.Closing.{AreParts, Closes, IsPart, has_client}
use Rattle.node_shared.specs.Journal.{IsRun, has_entries, entries_of}
use Rattle.node_shared.specs.Records.{RecordState}
use Rattle.node_shared.specs.Working.{AllWorked, DidAll, job_step}
use Rattle.ets_script.specs.Threads.{AreDone, RunsJobs}
use Rattle.ets_script.specs.inside.Planning.{IsUnplanned}
use Rattle.ets_script.specs.inside.Processes.{AreEnrolled, DidJobs, HaveRun, IsNew, StopsBeforeOutput}
use Rattle.ets_script.specs.declared.fault.ScriptFault.{ScriptFault}
use Rattle.ets_script.specs.declared.fault.ScriptFault.TheVariants.{Read, Write, Memory, Differs, Missing}

abbrev step_of : Entry → Step
step_of e = e.step

-- one process more
pub enrolled-then : (p : ℕ) (lists : List (List Job)) (xs : List (RecordState × Vec Job Global)) (own : List Job) (x : RecordState × Vec Job Global) → AreEnrolled p lists xs → IsNew (p + length lists) x.0 → x.1.items ≡ own
    → AreEnrolled p (lists ++ own ∷ []) (xs ++ x ∷ [])
enrolled-then p [] [] own x e new is =
    let same : p + 0 ≡ p = omega arith in
    (subst (λ (n : ℕ). IsNew n x.0) same new, is, tt)
enrolled-then p [] (y ∷ ys) own x e new is = absurd e
enrolled-then p (first ∷ lists) [] own x e new is = absurd e
enrolled-then p (first ∷ lists) (y ∷ ys) own x (here, jobs, more) new is =
    let same : p + suc (length lists) ≡ suc p + length lists = omega arith in
    (here, jobs, enrolled-then (suc p) lists ys own x more (subst (λ (n : ℕ). IsNew n x.0) same new) is)

-- a process that was new did its jobs
did-jobs : (p : ℕ) (jobs own : List Job) (old new : RecordState) (n : ℕ) → IsNew p old → own ≡ jobs → DidAll old own n new → DidJobs p jobs new n
did-jobs p jobs own old new n (r, is) same (short, (done, ends, steps)) = (
  ap (λ (c : RecordState). c.pid) ends ∙ ap (λ (c : RecordState). c.pid) is,
  subst (λ (l : List Job). n ≤ length l) same short,
  ap (λ (c : RecordState). map step_of c.entries) ends
      ∙ ap (λ (c : RecordState). map step_of (c.entries ++ done)) is
      ∙ ap (λ (l : List Step). Enrol p ∷ l) (steps ∙ ap (λ (c : RecordState). map (job_step c.pid) (take (length own - n) own)) is ∙ ap (λ (l : List Job). map (job_step p) (take (length l - n) l)) same),
)

pub worked-run : {T : Type 0} (p : ℕ) (lists : List (List Job)) (xs : List (RecordState × Vec Job Global)) (ws : List (Worked T)) → AreEnrolled p lists xs → AllWorked xs ws
    → HaveRun p lists (map (λ w. w.client) ws) (map (λ w. w.left) ws)
worked-run p [] [] [] e did = tt
worked-run p [] [] (w ∷ ws) e did = absurd did
worked-run p [] (x ∷ xs) ws e did = absurd e
worked-run p (jobs ∷ lists) [] ws e did = absurd e
worked-run p (jobs ∷ lists) (x ∷ xs) [] e did = absurd did
worked-run p (jobs ∷ lists) (x ∷ xs) (w ∷ ws) (new, same, more) (did, others) = (did-jobs p jobs x.1.items x.0 w.client w.left new same did, worked-run (suc p) lists xs ws more others)

-- the clients' records are their parts of the journal
have-done : (done : List Entry) (p : ℕ) (lists : List (List Job)) (clients : List RecordState) (left : List ℕ) → HaveRun p lists clients left → AllByRecursion (IsPart done) clients → AreDone done p lists left
have-done done p [] [] [] run parts = tt
have-done done p [] [] (n ∷ left) run parts = absurd run
have-done done p [] (c ∷ cs) left run parts = absurd run
have-done done p (jobs ∷ lists) [] left run parts = absurd run
have-done done p (jobs ∷ lists) (c ∷ cs) [] run parts = absurd run
have-done done p (jobs ∷ lists) (c ∷ cs) (n ∷ left) ((pid, short, steps), more) (part, parts) =
    (short, ap (λ (l : List Entry). map step_of l) (ap (λ (q : ℕ). entries_of q done) (sym pid) ∙ part) ∙ steps, have-done done (suc p) lists cs left more parts)

-- their processes are those from p on
are-below : (q p : ℕ) (lists : List (List Job)) (clients : List RecordState) (left : List ℕ) → HaveRun p lists clients left → has_client q clients ≡ true → q < p + length lists
are-below q p [] [] [] run has = absurd (cc)
are-below q p [] [] (n ∷ left) run has = absurd run
are-below q p [] (c ∷ cs) left run has = absurd run
are-below q p (jobs ∷ lists) [] left run has = absurd run
are-below q p (jobs ∷ lists) (c ∷ cs) [] run has = absurd run
are-below q p (jobs ∷ lists) (c ∷ cs) (n ∷ left) (did, more) has = by (c.pid == q) refl has (λ found. are-below q (suc p) lists cs left more found)
  where
    by : (b : Bool) → (c.pid == q) ≡ b → (b || has_client q cs) ≡ true → (has_client q cs ≡ true → q < suc p + length lists) → q < p + length (jobs ∷ lists)
    by true is found others =
        let own : c.pid ≡ q = (Decides-eqb c.pid q).0 is in
        let pid : c.pid ≡ p = did.0 in
        omega arith
    by false is found others =
        let below : q < suc p + length lists = others found in
        omega arith

-- The journal was closed over the clients of these processes.
pub closed : (limits : Limits) (lists : List (List Job)) (clients : List RecordState) (left : List ℕ) (t : Transcript) → HaveRun 0 lists clients left → Closes limits clients (Ok t) → RunsJobs limits lists t.entries.items left
closed limits lists clients left t run (journal, state, is, (same, parts, none)) = record {
  end = state;
  run = subst (λ (l : List Entry). IsRun limits l state) (sym same) is;
  each = have-done t.entries.items 0 lists clients left run (subst (λ (l : List Entry). AreParts l clients) (sym same) parts);
  no_others = λ p has.
      let below : p < 0 + length lists = are-below p 0 lists clients left run (none p (subst (λ (l : List Entry). has_entries p l ≡ true) same has)) in
      omega arith;
}

-- as many processes have jobs left as have jobs
same-lengths : (done : List Entry) (p : ℕ) (lists : List (List Job)) (left : List ℕ) → AreDone done p lists left → length left ≡ length lists
same-lengths done p [] [] d = refl
same-lengths done p [] (n ∷ left) d = absurd d
same-lengths done p (jobs ∷ lists) [] d = absurd d
same-lengths done p (jobs ∷ lists) (n ∷ left) (short, steps, more) = ap (λ (k : ℕ). suc k) (same-lengths done (suc p) lists left more)

pub as-many : {limits : Limits} {lists : List (List Job)} {done : List Entry} {left : List ℕ} → RunsJobs limits lists done left → length left ≡ length lists
as-many {limits} {lists} {done} {left} r = same-lengths done 0 lists left r.each

-- a fault is reported as it was found
pub fault-of-err : {N F : Type 0} (P : F → Type 0) (r : Result N F) (fault : F) → IsErrAnd r (λ returned. returned ≡ fault) → P fault → IfErr r P
fault-of-err P (Ok x) fault returned is = tt
fault-of-err P (Err e) fault returned is = subst P (sym returned) is

-- what stops the planning stops the run
pub unplanned : (limits : Limits) (fault : ScriptFault) → IsUnplanned fault → StopsBeforeOutput limits fault
unplanned limits Read u = tt
unplanned limits Write u = absurd u
unplanned limits Memory u = tt
unplanned limits (Differs p) u = absurd u
unplanned limits (Missing p) u = absurd u
