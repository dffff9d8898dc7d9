-- The values of the constants of scripts.
use Rattle.std.specs.Prelude.{◌≡◌}
use Rattle.node_shared.specs.declared.pids.TheConstants.{MAX_PIDS}
use Rattle.ets_script.specs.declared.lines.TheConstants.{MAX_LINE}
use Rattle.ets_script.specs.declared.run.TheConstants.{MAX_READS}

-- The greatest number of bytes of a line before its LF. The greatest number of reads of a script: if none of these
-- finds the end of the input, that is a read fault. The greatest number of processes of a script in threads.
pub record ConstantsHaveValues : Type 0 where
  pub line : MAX_LINE ≡ 65536
  pub reads : MAX_READS ≡ 1000000000
  pub pids : MAX_PIDS ≡ 4096
