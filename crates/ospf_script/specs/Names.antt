-- The words that commands begin with.
use Rattle.std.specs.Prelude.{◌≡◌, ◌⊎◌, ◌||◌, Bool, List, [], ◌∷◌, Option, codes}
use Rattle.std.specs.List.{find}
use Rattle.std.specs.Str.{bytes_eq}
use Rattle.ospf_script.specs.Words.{Text}
use Rattle.ospf_script.specs.declared.command.View.TheVariants as view
use Rattle.ospf_script.specs.declared.name.Name.{Name}
use Rattle.ospf_script.specs.declared.name.Name.TheVariants as name

-- the word itself
abbrev pub command_name_text : Name → Text
command_name_text name.Start = codes "start"
command_name_text name.Stop = codes "stop"
command_name_text name.Tick = codes "tick"
command_name_text name.Up = codes "up"
command_name_text name.Down = codes "down"
command_name_text name.Deliver = codes "deliver"
command_name_text name.Cut = codes "cut"
command_name_text name.Mend = codes "mend"
command_name_text name.Round = codes "round"
command_name_text name.Batch = codes "batch"
command_name_text name.Random = codes "random"
command_name_text name.Settle = codes "settle"
command_name_text (name.Show view.Neighbours) = codes "neighbours"
command_name_text (name.Show view.Listing) = codes "listing"
command_name_text (name.Show view.Table) = codes "table"
command_name_text (name.Show view.Floor) = codes "floor"
command_name_text name.Walk = codes "walk"
command_name_text name.Say = codes "say"
command_name_text name.Why = codes "why"
command_name_text name.Datagrams = codes "datagrams"
command_name_text name.Drops = codes "drops"
command_name_text name.Lsas = codes "lsas"
command_name_text name.Loss = codes "loss"
command_name_text name.Expect = codes "expect"
command_name_text name.Label = codes "label"

-- the word is the name, or another spelling of it
abbrev pub IsWordOf : Text → Name → Type 0
IsWordOf word (name.Show view.Neighbours) = (word ≡ codes "neighbours") ⊎ (word ≡ codes "neighbors")
IsWordOf word n = word ≡ command_name_text n

-- the word is this one; of neighbours it can be spelled in two ways
abbrev pub is_word_of : Text → Name → Bool
is_word_of word (name.Show view.Neighbours) =
    bytes_eq word (codes "neighbours") || bytes_eq word (codes "neighbors")
is_word_of word n = bytes_eq word (command_name_text n)

-- all of them
abbrev pub all_names : List Name
all_names =
    name.Start ∷ name.Stop ∷ name.Tick ∷ name.Up ∷ name.Down ∷ name.Deliver ∷ name.Cut ∷ name.Mend
    ∷ name.Round ∷ name.Batch
    ∷ name.Random ∷ name.Settle ∷ name.Show view.Neighbours ∷ name.Show view.Listing
    ∷ name.Show view.Table ∷ name.Show view.Floor ∷ name.Walk
    ∷ name.Say ∷ name.Why ∷ name.Datagrams ∷ name.Drops ∷ name.Lsas ∷ name.Loss ∷ name.Expect
    ∷ name.Label ∷ []

-- the name that a word is, if it is one
abbrev pub name_in : Text → Option Name
name_in word = find (is_word_of word) all_names
