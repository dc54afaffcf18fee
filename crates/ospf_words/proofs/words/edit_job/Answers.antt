use Rattle.std.proofs.Common.{◌≡◌, ◌∙◌, false, true, refl, sym}
use Rattle.clap.specs.Words.{found_of, rows_of}
use Rattle.ospf_words.specs.Unasked.{in_edit}
use Rattle.ospf_words.proofs.WordLemmas.{changed, changing, words_found}
use Rattle.ospf_words.proofs.words.edit_job.Goals as goal

pub returns-then-not-has_change : goal.returns-then-not-has_change
returns-then-not-has_change c =
    let rows = rows_of (found_of c.args.values.now) in
    let down = words_found c.all_of.result _ c.unwrap_or-down.result _ refl c.unwrap_or-down.ensures c.all_of.ensures in
    let costs = words_found c.all_of-2.result _ c.unwrap_or-costs.result _ refl c.unwrap_or-costs.ensures c.all_of-2.ensures in
    let drains = words_found c.all_of-3.result _ c.unwrap_or-drains.result _ refl c.unwrap_or-drains.ensures c.all_of-3.ensures in
    in_edit rows refl (λ change. absurd (let wrong : true ≡ false = sym (c.has_change.ensures.1 (changing rows _ _ _ down costs drains change)) ∙ c.if-not-has_change.true in cc))

pub returns : goal.returns
returns c =
    let rows = rows_of (found_of c.args.values.now) in
    let down = words_found c.all_of.result _ c.unwrap_or-down.result _ refl c.unwrap_or-down.ensures c.all_of.ensures in
    let costs = words_found c.all_of-2.result _ c.unwrap_or-costs.result _ refl c.unwrap_or-costs.ensures c.all_of-2.ensures in
    let drains = words_found c.all_of-3.result _ c.unwrap_or-drains.result _ refl c.unwrap_or-drains.ensures c.all_of-3.ensures in (
      rows,
      refl,
      record {
        down = c.in_ok-down.ensures ∙ down;
        costs = c.in_ok-costs.ensures ∙ costs;
        drains = c.in_ok-drains.ensures ∙ drains;
        some = changed rows _ _ _ down costs drains (c.has_change.ensures.0 c.if-not-has_change.false);
      },
    )
