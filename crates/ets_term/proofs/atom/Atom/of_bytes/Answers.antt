use Rattle.ets_term.proofs.Texts.{atom_is_utf8}
use Rattle.ets_term.proofs.atom.Atom.of_bytes.Goals as goal

pub from_utf8_unchecked-text-requires : goal.from_utf8_unchecked-text-requires
from_utf8_unchecked-text-requires c = atom_is_utf8 c.args.bytes.now c.requires
