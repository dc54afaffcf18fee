-- The hint after a line that spells no command: the list of commands if its first word is not a
-- command, else the form of the command.
use Rattle.std.specs.Prelude.{ℕ, ◌||◌, List, [], ◌∷◌, ◌++◌, Option, None, Some, codes, flat_map, nat_lt, if◌then◌else◌}
use Rattle.ospf_script.specs.Names.{name_in}
use Rattle.ospf_script.specs.Texts.{hexadecimal}
use Rattle.ospf_script.specs.Words.{Text}
use Rattle.ospf_script.specs.declared.command.View.TheVariants as view
use Rattle.ospf_script.specs.declared.name.Name.{Name}
use Rattle.ospf_script.specs.declared.name.Name.TheVariants as name

-- a byte of a word: itself if it is a visible ASCII character, else as \x1b
abbrev pub byte_text : ℕ → Text
byte_text byte =
    if nat_lt byte 33 || nat_lt 126 byte then codes "\\x" ++ hexadecimal 2 byte else byte ∷ []

-- a word, byte by byte
abbrev pub word_text : Text → Text
word_text word = flat_map byte_text word

-- the form of each command
abbrev pub form_text : Name → Text
form_text name.Start = codes "start R DD [FLOOR], or start all"
form_text name.Stop = codes "stop R"
form_text name.Tick = codes "tick R"
form_text name.Up = codes "up R LINK, or up all"
form_text name.Down = codes "down R LINK, or down all"
form_text name.Deliver = codes "deliver N R LINK"
form_text name.Cut = codes "cut ADDRESS"
form_text name.Mend = codes "mend ADDRESS"
form_text name.Round = codes "round COUNT [MOST]"
form_text name.Batch = codes "batch COUNT"
form_text name.Random = codes "random NUMBER COUNT"
form_text name.Settle = codes "settle MAX"
form_text (name.Show view.Neighbours) = codes "neighbours R"
form_text (name.Show view.Listing) = codes "listing R"
form_text (name.Show view.Table) = codes "table R"
form_text name.Walk = codes "walk R ADDRESS [CHOICE..]"
form_text (name.Show view.Floor) = codes "floor R"
form_text name.Say = codes "say WORD.."
form_text name.Why = codes "why R LINK [NEIGHBOUR], or why headline R"
form_text name.Datagrams = codes "datagrams R [MOST]"
form_text name.Drops = codes "drops R"
form_text name.Lsas = codes "lsas R"
form_text name.Loss = codes "loss PERCENT NUMBER [ADDRESS]"
form_text name.Expect =
    codes
    "expect full R S, expect neighbour R S STATE, expect no neighbour R LINK, expect dr R LINK ADDRESS [BACKUP], expect route R PREFIX COST [HOP..], expect no route R PREFIX, expect walk R ADDRESS arrived [COST], expect agree, expect headline [R], or expect settled"
form_text name.Label = codes "label on, or label off"

-- the hint for a first word: the list of commands if it is not a command name, else the form of the
-- command
abbrev pub hint_of : Text → Option Name → Text
hint_of word None =
    word_text word
    ++ codes
    ": no such command; the commands are start, stop, tick, up, down, deliver, cut, mend, round, batch, random, settle, neighbours, listing, table, walk, floor, say, why, datagrams, drops, lsas, loss, expect, label; each one alone, except say, shows its form"
hint_of word (Some n) = form_text n

-- the hint for the words of a line
abbrev pub hint_text : List Text → Text
hint_text [] = []
hint_text (word ∷ ws) = hint_of word (name_in word)
