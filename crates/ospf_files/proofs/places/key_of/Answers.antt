use Rattle.std.proofs.Common.{refl}
use Rattle.ospf_files.proofs.PlaceLists.{found_none, found_some}
use Rattle.ospf_files.proofs.places.key_of.Goals.{in-None, in-Some+in_ok-found_in-in-Some}
use Rattle.ospf_files.proofs.places.key_of.Goals as goal

pub returns : goal.returns
returns c = record {
  place = _;
  is_key = refl;
  section_is = refl;
  key_is = c.in_ok-key.ensures;
  wanted_is = refl;
  found_is = elim c.match-value_at.branch [
    | in-None w ↦ found_none _ _ w.in-None.ensures w.found-is
    | in-Some+in_ok-found_in-in-Some w ↦ found_some _ _ _ w.in_ok-found_in-in-Some.field-0 w.in-Some.ensures w.found-is w.in_ok-found_in-in-Some.ensures
  ];
}
