-- What a script has read and written when it ends.
use Rattle.std.specs.Prelude.{◌≡◌, ◌⊎◌, ℕ, List, [], ◌++◌}
use Rattle.std.specs.Io.KnownBytes.{Appends, Consumes, IsAtEnd}
use Rattle.ets_packets.specs.Traffic.{Traffic}
use Rattle.ets_script.specs.Lines.{IsOneLine}
use Rattle.node_core.specs.State.{State}
use Rattle.node_core.specs.declared.limits.Limits.{Limits}
use Rattle.ets_script.specs.Script.{ScriptState, at_start, IsScript, AreWholeLines, AreLines}
use Rattle.ets_script.specs.declared.fault.ScriptFault.{ScriptFault}
use Rattle.ets_script.specs.declared.fault.ScriptFault.TheVariants.{Read, Write, Memory, Differs, Missing}

-- a whole script was read, to the end of the input, and all answers to its lines were written
abbrev pub Completes : ScriptState → ScriptState → Traffic → Type 0
Completes start end streams =
    (input : List ℕ) × (output : List ℕ)
    × Consumes streams.reader.before streams.reader.after input × IsAtEnd streams.reader.after
    × Appends streams.writer.before streams.writer.after output × IsScript start input output end

-- the same as Completes, and this is the state of the node at the end
abbrev pub LeavesNode : ScriptState → State → Traffic → Type 0
LeavesNode start node streams = (end : ScriptState) × (end.node ≡ node) × Completes start end streams

-- What was read and written when a script stopped. At a read fault: whole lines, each with its LF, were read, and then
-- a part of a line. All answers to the whole lines were written, and the part was not answered. At a write fault: a
-- prefix of the answers was written. They are the answers to whole lines, and to a last line without an LF if all of
-- the input was read. Some of what was read may not have been answered. Without memory at the start: nothing was read
-- or written. A script stops for no other reason.
abbrev pub Stops : ScriptState → Traffic → ScriptFault → Type 0
Stops start streams Read =
    (lines : List ℕ) × (part : List ℕ) × (output : List ℕ) × (end : ScriptState)
    × Consumes streams.reader.before streams.reader.after (lines ++ part) × IsOneLine part
    × Appends streams.writer.before streams.writer.after output × AreWholeLines start lines output end
Stops start streams Write =
    (lines : List ℕ) × (unread : List ℕ) × (output : List ℕ) × (unsent : List ℕ) × (end : ScriptState)
    × Consumes streams.reader.before streams.reader.after (lines ++ unread)
    × Appends streams.writer.before streams.writer.after output
    × AreLines ((unread ≡ []) × IsAtEnd streams.reader.after) start lines (output ++ unsent) end
Stops start streams Memory =
    Consumes streams.reader.before streams.reader.after [] × Appends streams.writer.before streams.writer.after []
Stops start streams (Differs p) = ⊥
Stops start streams (Missing p) = ⊥

-- the program's status with these limits of the node: 0 after a whole script, else 1
abbrev pub EndsWithin : Limits → Traffic → ℕ → Type 0
EndsWithin limits streams status =
    ((status ≡ 0) × (end : ScriptState) × Completes (at_start limits) end streams)
    ⊎ ((status ≡ 1) × (fault : ScriptFault) × Stops (at_start limits) streams fault)

-- the usual limits, but this limit of objects in one table
abbrev pub usual : ℕ → Limits
usual objects = record { processes = 4096; tables = 65536; objects = objects }

-- the same as EndsWithin, with these limits
abbrev pub ProgramEnds : ℕ → Traffic → ℕ → Type 0
ProgramEnds objects = EndsWithin (usual objects)
