use Rattle.std.proofs.Common.{rules, ◌≡◌, ◌∙◌, flat_map, inl, inr, ap}
use Rattle.std.specs.Prelude.{IsUtf8}
use Rattle.std.proofs.lemmas.Result.{IfOk-weaker}
use Rattle.ospf_config.specs.Configs.{TextHasFault}
use Rattle.ospf_files.specs.Explained.{IsExplained}
use Rattle.ospf_config.specs.Fault.{IsLeastFault}
use Rattle.ospf_check.specs.Checked.{its_places, place_line}
use Rattle.ospf_check.proofs.check.fault_said.Goals as goal

pub returns-in_ok-places-in-Ok : goal.returns-in_ok-places-in-Ok
returns-in_ok-places-in-Ok c fault refused =
    let same : c.in-Ok.text.now ≡ c.args.bytes.now = search rules in
    let text : IsUtf8 c.args.bytes.now = search rules in
    let least : IsLeastFault (TextHasFault c.args.bytes.now) fault = elim refused [ inl other ↦ absurd (other.0 text) | inr here ↦ here.1 ] in
    let explained : IsLeastFault (TextHasFault c.in-Ok.text.now) fault → IsExplained c.in-Ok.text.now fault c.in_ok-places-in-Ok.places.items = c.in_ok-places-in-Ok.ensures.refused fault in
    let of_bytes : IsExplained c.args.bytes.now fault c.in_ok-places-in-Ok.places.items = (rw same at explained) least in
    IfOk-weaker c.lines_of.result _ _ (λ lines is. its_places c.in_ok-places-in-Ok.places.items text of_bytes (is ∙ ap (flat_map place_line) c.deref.ensures.value)) c.lines_of.ensures
