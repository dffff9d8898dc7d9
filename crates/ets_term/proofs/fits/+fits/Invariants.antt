use Rattle.std.proofs.Common.{drop, map}
use Rattle.ets_term.specs.Data.{data_list, data_of}
use Rattle.ets_term.specs.Fits.{DataListFits}
use Rattle.ets_term.proofs.fits.+fits.Given as goal

abbrev pub invariant-fits_items-loop-item : goal.invariant-fits_items-loop-item
invariant-fits_items-loop-item l = DataListFits (data_list (map data_of (drop l.item-index l.items))) → DataListFits (data_list (map data_of l.items))
