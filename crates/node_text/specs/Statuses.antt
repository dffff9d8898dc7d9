-- The statuses, which are constants in the code: the numbers that bindings/c/include/yoyoash.h gives them.
use Rattle.std.specs.Prelude.{◌≡◌, pos}
use Rattle.node_text.specs.declared.status.TheConstants as is

pub record AreTheStatuses : Type 0 where
  pub value : is.VALUE ≡ pos 0
  pub badarg : is.BADARG ≡ pos 1
  pub limit : is.SYSTEM_LIMIT ≡ pos 2
  pub process : is.NO_PROCESS ≡ pos 3
  pub memory : is.NO_MEMORY ≡ pos 4
  pub syntax : is.SYNTAX ≡ pos 5
  pub closed : is.CLOSED ≡ pos 6
  pub untold : is.UNTOLD ≡ pos 7
