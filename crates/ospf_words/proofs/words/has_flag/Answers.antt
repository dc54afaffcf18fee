use Rattle.std.proofs.Common.{◌∙◌}
use Rattle.clap.specs.Words.{found_of}
use Rattle.clap.proofs.WalkLemmas.{one_text-rows}
use Rattle.ospf_words.proofs.words.has_flag.Goals as goal

pub returns : goal.returns
returns c =
    let text = one_text-rows (found_of c.args.values.now) c.args.name.now in
    record {
      none = λ e. c.get_flag.ensures.none (text ∙ e);
      set = λ e. c.get_flag.ensures.value (text ∙ e);
      unset = λ e. c.get_flag.ensures.other (text ∙ e);
    }
