-- A record that grows by an entry.
use Rattle.std.proofs.Common.{◌≡◌, ℕ, ◌+◌, List, [], ◌∷◌, ◌++◌, length, refl, arith, length-append}
use Rattle.std.proofs.lemmas.List.Elements.{All-nil, All-cons, All-append}
use Rattle.node_core.specs.declared.step.Step.{Step}
use Rattle.node_core.specs.declared.step.Reply.{Reply}
use Rattle.node_shared.specs.declared.entry.Entry.{Entry}
use Rattle.node_shared.specs.Journal.{entry}
use Rattle.node_shared.specs.Records.{Begins}
use Rattle.node_shared.specs.Running.{EndsRun, AllEndRuns}

begins-on : (p : ℕ) (es : List Entry) (e : Entry) → Begins p es → Begins p (es ++ e ∷ [])
begins-on p [] e h = absurd h
begins-on p (x ∷ xs) e h = h

pub record-on : (parts p n : ℕ) (es : List Entry) (s : Step) (r : Reply) → (length es ≡ n) × Begins p es × AllEndRuns parts es → EndsRun parts s r
    → (length (es ++ entry s r ∷ []) ≡ n + 1) × Begins p (es ++ entry s r ∷ []) × AllEndRuns parts (es ++ entry s r ∷ [])
record-on parts p n es s r was run =
    let e = entry s r in
    let long = length-append es (e ∷ []) in
    let one : length (e ∷ []) ≡ 1 = refl in
    let count = was.0 in
    let own : Entry → Type 0 = λ x. EndsRun parts x.step x.reply in (
      omega (arith, long, one, count),
      begins-on p es e was.1,
      All-append own es (e ∷ []) was.2 (All-cons own e [] run (All-nil own)),
    )
