use Rattle.std.proofs.Common.{◌≡◌, ◌∙◌, string_bytes}
use Rattle.std.specs.BTreeMap.{keys}
use Rattle.ospf_files.proofs.PlaceLists.{onward_none, onward_where, onward_all, key_names}
use Rattle.ospf_files.proofs.places.add_unknown.Goals as goal

pub loop-key-init : goal.loop-key-init
loop-key-init c =
    let same : c.into_iter-key-iterator.result ≡ keys c.args.table.now = c.into_iter-key-iterator.ensures.into_iter_gives ∙ c.keys-key-items.ensures.rest in
    rw (same, key_names c.args.table.now.entries) (onward_none _ _ _ _)

pub loop-key-preserved : goal.loop-key-preserved
loop-key-preserved c =
    let so_far = c.loop-key.invariant in
    let name = c.as_str-name.ensures.value in
    let here = c.in_ok-add_where.ensures in
    let other = c.is_other-holds.ensures in
    onward_where _ _ _ (string_bytes c.in-Some.key.now) _ _ _ _ _ (rw name at other) (rw c.in-Some.ensures.steps at so_far) (rw name at here)

pub returns : goal.returns
returns c = let so_far = c.loop-key.invariant in onward_all _ _ _ _ _ (rw c.in-None.ensures.steps.0 at so_far)
