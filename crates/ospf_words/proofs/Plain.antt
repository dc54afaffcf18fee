-- What stays of a command to which arguments are added.
use Rattle.std.proofs.Common.{◌≡◌, refl, List, [], ◌∷◌}
use Rattle.clap.specs.Words.{App, with_rule}
use Rattle.ospf_words.specs.declared.arguments.Argument.{Argument}
use Rattle.ospf_words.specs.Arguments.{rule_for, with_arguments}

-- arguments change none of the settings that change how words are read
pub plain_with : (app : App) (xs : List Argument) → (with_arguments app xs).top.is_plain ≡ app.top.is_plain
plain_with app [] = refl
plain_with app (x ∷ xs) = plain_with (with_rule app (rule_for x)) xs
