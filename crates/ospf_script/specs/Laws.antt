-- Laws of commands: no words spell two, and what is printed of one spells it.
use Rattle.std.specs.Prelude.{◌≡◌, List, string_bytes}
use Rattle.ospf_script.specs.Commands.{SpellsCommand}
use Rattle.ospf_script.specs.Texts.{command_text}
use Rattle.ospf_script.specs.Words.{Text, line_words}
use Rattle.ospf_script.specs.declared.command.Command.{Command}
use Rattle.ospf_script.specs.declared.command.Command.TheVariants.{Expect, Say, Walk}
use Rattle.ospf_script.specs.declared.expected.Expected.{Expected}
use Rattle.ospf_script.specs.declared.expected.Expected.TheVariants.{Router}
use Rattle.ospf_script.specs.declared.expected.Wanted.{Wanted}
use Rattle.ospf_script.specs.declared.expected.Wanted.TheVariants.{Route}

-- the same is wanted; of routes the next hops are equal, wherever they lie
abbrev pub IsOneWanted : Wanted → Wanted → Type 0
IsOneWanted (Route prefix cost hops) (Route prefix' cost' hops') =
    (prefix ≡ prefix') × (cost ≡ cost') × (hops.items ≡ hops'.items)
IsOneWanted x y = x ≡ y

-- the same is expected
abbrev pub IsOneExpected : Expected → Expected → Type 0
IsOneExpected (Router router wanted) (Router router' wanted') =
    (router ≡ router') × IsOneWanted wanted wanted'
IsOneExpected e f = e ≡ f

-- the commands are one; of walks the choices are equal, and of texts the bytes, wherever they lie
abbrev pub IsOneCommand : Command → Command → Type 0
IsOneCommand (Walk from address choices) (Walk from' address' choices') =
    (from ≡ from') × (address ≡ address') × (choices.items ≡ choices'.items)
IsOneCommand (Say text) (Say text') = string_bytes text ≡ string_bytes text'
IsOneCommand (Expect e) (Expect f) = IsOneExpected e f
IsOneCommand c d = c ≡ d

-- the law: two commands that the same words spell are one
abbrev pub WordsSpellOneCommand : Type 0
WordsSpellOneCommand =
    (ws : List Text) (c d : Command) → SpellsCommand ws c → SpellsCommand ws d → IsOneCommand c d

-- the law: what is printed of a command that some line spells is a line that spells it
abbrev pub PrintedIsSpelled : Type 0
PrintedIsSpelled =
    (line : Text) (c : Command) → SpellsCommand (line_words line) c
    → SpellsCommand (line_words (command_text c)) c
