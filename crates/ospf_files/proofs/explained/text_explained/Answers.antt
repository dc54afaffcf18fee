use Rattle.std.proofs.Common.{◌≡◌, None, sym}
use Rattle.std.proofs.lemmas.Bool.{false≢true}
use Rattle.std.proofs.lemmas.Result.{IfOk-weaker}
use Rattle.toml.specs.Parse.{parse_document}
use Rattle.ospf_files.proofs.PlaceLists.{line_explained}
use Rattle.ospf_files.proofs.explained.text_explained.Goals as goal

pub returns-in-Some : goal.returns-in-Some
returns-in-Some c has =
    let none : parse_document c.args.text.now ≡ None = c.in-Err.ensures.refused (λ memory. false≢true (sym (c.in-Some.ensures.none.1 memory))) in
    IfOk-weaker c.line_places.result _ _ (λ places at. line_explained c.args.text.now c.args.fault places.items none at has) c.line_places.ensures
