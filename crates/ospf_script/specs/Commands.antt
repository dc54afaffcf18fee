-- Which words spell which command.
use Rattle.std.specs.Prelude.{◌≡◌, ◌⊎◌, ⊤, ℕ, ℤ, List, [], ◌∷◌, ◌++◌, Bool, true, false, codes, flat_map, string_bytes, Option, None, Some}
use Rattle.std.specs.List.{AllZip}
use Rattle.ospf_base.specs.declared.ids.Addr.{Addr}
use Rattle.ospf_base.specs.declared.ids.RouterId.{RouterId}
use Rattle.ospf_base.specs.declared.event.event.WorldEvent.{WorldEvent}
use Rattle.ospf_base.specs.declared.event.event.WorldEvent.TheVariants as event
use Rattle.ospf_script.specs.Expected.{IsExpected, IsLongRoute}
use Rattle.ospf_script.specs.Names.{IsWordOf, command_name_text}
use Rattle.ospf_script.specs.Values.{AreManySpelled, IsAddress, IsDecimal, IsFloor, IsPercent, IsRouterWord, no_floor}
use Rattle.ospf_base.specs.Text.{IsBlank}
use Rattle.ospf_script.specs.Words.{Text, line_words}
use Rattle.ospf_script.specs.declared.command.Command.{Command}
use Rattle.ospf_script.specs.declared.command.Command.TheVariants as command
use Rattle.ospf_script.specs.declared.command.Many.{Many}
use Rattle.ospf_script.specs.declared.command.Many.TheVariants as many
use Rattle.ospf_script.specs.declared.name.Name.{Name}
use Rattle.ospf_script.specs.declared.name.Name.TheVariants as name

-- ---- words in a row

-- one word, of which this holds
abbrev pub IsOne : (Text → Type 0) → List Text → Type 0
IsOne P (a ∷ []) = P a
IsOne P _ = ⊥

-- two words
abbrev pub IsTwo : (Text → Text → Type 0) → List Text → Type 0
IsTwo P (a ∷ b ∷ []) = P a b
IsTwo P _ = ⊥

-- three words
abbrev pub IsThree : (Text → Text → Text → Type 0) → List Text → Type 0
IsThree P (a ∷ b ∷ c ∷ []) = P a b c
IsThree P _ = ⊥

-- ---- the words after a command's name

-- a Router ID and no more
abbrev pub IsRouterAlone : List Text → RouterId → Type 0
IsRouterAlone ws router = IsOne (λ a. IsRouterWord a router) ws

-- an address and no more
abbrev pub IsAddressAlone : List Text → Addr → Type 0
IsAddressAlone ws address = IsOne (λ a. IsAddress a address) ws

-- a count and no more
abbrev pub IsCountAlone : List Text → ℕ → Type 0
IsCountAlone ws count = IsOne (λ a. IsDecimal 64 a count) ws

-- a Router ID, and the number of one of its links
abbrev pub IsRouterAndLink : List Text → RouterId → ℕ → Type 0
IsRouterAndLink ws router link = IsTwo (λ a b. IsRouterWord a router × IsDecimal 64 b link) ws

-- two numbers
abbrev pub AreNumbers : List Text → ℕ → ℕ → Type 0
AreNumbers ws number count = IsTwo (λ a b. IsDecimal 64 a number × IsDecimal 64 b count) ws

-- a count of rounds, and how many datagrams each offers at most, where that is given
abbrev pub AreRoundWords : List Text → ℕ → Option ℕ → Type 0
AreRoundWords ws count None = IsCountAlone ws count
AreRoundWords ws count (Some most) = AreNumbers ws count most

-- a Router ID, and how many datagrams at most, where that is given
abbrev pub AreDatagramWords : List Text → RouterId → Option ℕ → Type 0
AreDatagramWords ws router None = IsRouterAlone ws router
AreDatagramWords ws router (Some most) =
    IsTwo (λ a b. IsRouterWord a router × IsDecimal 64 b most) ws

-- the number of a datagram, and the router and the link to which it goes
abbrev pub IsDelivery : List Text → ℕ → RouterId → ℕ → Type 0
IsDelivery ws datagram router link =
    IsThree (λ a b c. IsDecimal 64 a datagram × IsRouterWord b router × IsDecimal 64 c link) ws

-- a Router ID and a link, and the Router ID of a neighbour, where that is given
abbrev pub IsWhy : List Text → RouterId → ℕ → Option RouterId → Type 0
IsWhy ws router link None = IsRouterAndLink ws router link
IsWhy ws router link (Some neighbour) =
    IsThree (λ a b c. IsRouterWord a router × IsDecimal 64 b link × IsRouterWord c neighbour) ws

-- the word `headline`, and a Router ID
abbrev pub IsWhyHeadline : List Text → RouterId → Type 0
IsWhyHeadline ws router = IsTwo (λ a b. (a ≡ codes "headline") × IsRouterWord b router) ws

-- how many of a hundred deliveries are lost, the number of a generator, and an address in the one
-- network where that is, if it is given
abbrev pub IsLossWords : List Text → ℕ → ℕ → Option Addr → Type 0
IsLossWords ws percent number None = IsTwo (λ a b. IsPercent a percent × IsDecimal 64 b number) ws
IsLossWords ws percent number (Some address) =
    IsThree (λ a b c. IsPercent a percent × IsDecimal 64 b number × IsAddress c address) ws

-- with no floor, or with one
abbrev pub IsStart : List Text → RouterId → ℕ → ℤ → Type 0
IsStart ws router dd_start floor =
    IsTwo (λ a b. IsRouterWord a router × IsDecimal 32 b dd_start × (floor ≡ no_floor)) ws
    ⊎ IsThree (λ a b c. IsRouterWord a router × IsDecimal 32 b dd_start × IsFloor c floor) ws

-- a Router ID and an address, and then other words
abbrev pub BeginsWalk : List Text → RouterId → Addr → List Text → Type 0
BeginsWalk (a ∷ b ∷ ws) from address rest = IsRouterWord a from × IsAddress b address × (ws ≡ rest)
BeginsWalk _ from address rest = ⊥

-- from which router to which address a walk goes, and which of the equally good
-- next hops it takes at each router
abbrev pub IsWalkWords : List Text → RouterId → Addr → List ℕ → Type 0
IsWalkWords ws from address choices =
    (rest : List Text) × BeginsWalk ws from address rest × AllZip (IsDecimal 32) rest choices

-- a walk with a choice or more
abbrev pub IsLongWalk : List Text → Type 0
IsLongWalk ws =
    (from : RouterId) × (address : Addr) × (rest : List Text) × BeginsWalk ws from address rest
    × AreManySpelled (IsDecimal 32) rest

-- the word `all` alone
abbrev pub IsAll : List Text → Type 0
IsAll ws = ws ≡ codes "all" ∷ []

-- the word `on` or the word `off` alone
abbrev pub IsSwitch : List Text → Bool → Type 0
IsSwitch ws true = ws ≡ codes "on" ∷ []
IsSwitch ws false = ws ≡ codes "off" ∷ []

-- words with a space between two
abbrev pub spaced : List Text → Text
spaced [] = []
spaced (a ∷ ws) = a ++ flat_map (λ b. 32 ∷ b) ws

-- ---- events

-- the word that an event's command begins with
abbrev pub name_of_event : WorldEvent → Name
name_of_event (event.Start router dd_start floor) = name.Start
name_of_event (event.Stop router) = name.Stop
name_of_event (event.Tick router) = name.Tick
name_of_event (event.LinkUp router link) = name.Up
name_of_event (event.LinkDown router link) = name.Down
name_of_event (event.Deliver datagram router link) = name.Deliver

-- the words after the name of an event
abbrev pub TakesEventWords : WorldEvent → List Text → Type 0
TakesEventWords (event.Start router dd_start floor) ws = IsStart ws router dd_start floor
TakesEventWords (event.Stop router) ws = IsRouterAlone ws router
TakesEventWords (event.Tick router) ws = IsRouterAlone ws router
TakesEventWords (event.LinkUp router link) ws = IsRouterAndLink ws router link
TakesEventWords (event.LinkDown router link) ws = IsRouterAndLink ws router link
TakesEventWords (event.Deliver datagram router link) ws = IsDelivery ws datagram router link

-- the event has this name, and takes the words
abbrev pub IsEventOf : Name → List Text → WorldEvent → Type 0
IsEventOf name ws event = (name_of_event event ≡ name) × TakesEventWords event ws

-- the word that a command of many events begins with
abbrev pub name_of_many : Many → Name
name_of_many many.Start = name.Start
name_of_many many.Up = name.Up
name_of_many many.Down = name.Down
name_of_many (many.Cut network) = name.Cut
name_of_many (many.Mend network) = name.Mend

-- the words after the name of events at many routers
abbrev pub TakesMany : Many → List Text → Type 0
TakesMany (many.Cut network) ws = IsAddressAlone ws network
TakesMany (many.Mend network) ws = IsAddressAlone ws network
TakesMany _ ws = IsAll ws

-- the events have this name, and take the words
abbrev pub AreEventsOf : Name → List Text → Many → Type 0
AreEventsOf name ws many = (name_of_many many ≡ name) × TakesMany many ws

-- ---- commands

-- the word that a command begins with
abbrev pub name_of_command : Command → Name
name_of_command (command.Event event) = name_of_event event
name_of_command (command.Many many) = name_of_many many
name_of_command (command.Round count most) = name.Round
name_of_command (command.Batch count) = name.Batch
name_of_command (command.Random number count) = name.Random
name_of_command (command.Settle most) = name.Settle
name_of_command (command.Show view router) = name.Show view
name_of_command (command.Walk from address choices) = name.Walk
name_of_command (command.Say text) = name.Say
name_of_command (command.Why router link neighbour) = name.Why
name_of_command (command.WhyHeadline router) = name.Why
name_of_command (command.Datagrams router most) = name.Datagrams
name_of_command (command.Drops router) = name.Drops
name_of_command (command.Lsas router) = name.Lsas
name_of_command (command.Loss percent number network) = name.Loss
name_of_command (command.Expect expected) = name.Expect
name_of_command (command.Label is_on) = name.Label

-- the words behind its name
abbrev pub TakesWords : Command → List Text → Type 0
TakesWords (command.Event event) ws = TakesEventWords event ws
TakesWords (command.Many many) ws = TakesMany many ws
TakesWords (command.Round count most) ws = AreRoundWords ws count most
TakesWords (command.Batch count) ws = IsCountAlone ws count
TakesWords (command.Random number count) ws = AreNumbers ws number count
TakesWords (command.Settle most) ws = IsCountAlone ws most
TakesWords (command.Show view router) ws = IsRouterAlone ws router
TakesWords (command.Walk from address choices) ws = IsWalkWords ws from address choices.items
TakesWords (command.Say text) ws = string_bytes text ≡ spaced ws
TakesWords (command.Why router link neighbour) ws = IsWhy ws router link neighbour
TakesWords (command.WhyHeadline router) ws = IsWhyHeadline ws router
TakesWords (command.Datagrams router most) ws = AreDatagramWords ws router most
TakesWords (command.Drops router) ws = IsRouterAlone ws router
TakesWords (command.Lsas router) ws = IsRouterAlone ws router
TakesWords (command.Loss percent number network) ws = IsLossWords ws percent number network
TakesWords (command.Expect expected) ws = IsExpected ws expected
TakesWords (command.Label is_on) ws = IsSwitch ws is_on

-- the command has this name, and takes the words
abbrev pub IsNamedCommand : Name → List Text → Command → Type 0
IsNamedCommand name ws c = (name_of_command c ≡ name) × TakesWords c ws

-- the names of commands whose last word may be left out, but for events and what is expected
abbrev pub HasForms : Name → Type 0
HasForms name.Round = ⊤
HasForms name.Why = ⊤
HasForms name.Datagrams = ⊤
HasForms name.Loss = ⊤
HasForms _ = ⊥

-- the words spell the command: its name, and what it takes
abbrev pub SpellsCommand : List Text → Command → Type 0
SpellsCommand [] c = ⊥
SpellsCommand (a ∷ ws) c = IsWordOf a (name_of_command c) × TakesWords c ws

-- ---- lines

-- the line is not blank, and spells no command
pub record IsUnreadable (line : Text) : Type 0 where
  pub some : IsBlank line → ⊥
  pub none : (c : Command) → SpellsCommand (line_words line) c → ⊥

-- the words spell a walk with a choice or more
abbrev pub SpellsLongWalk : List Text → Type 0
SpellsLongWalk ws = (rest : List Text) × (ws ≡ command_name_text name.Walk ∷ rest) × IsLongWalk rest

-- the words spell a text to be printed
abbrev pub SpellsText : List Text → Type 0
SpellsText ws = (rest : List Text) × (ws ≡ command_name_text name.Say ∷ rest)

-- the words spell a route that is expected, with next hops
abbrev pub SpellsLongRoute : List Text → Type 0
SpellsLongRoute ws =
    (rest : List Text) × (ws ≡ command_name_text name.Expect ∷ rest) × IsLongRoute rest

-- they spell a command that needs room: for the choices of a walk, for a text, or for next hops
abbrev pub NeedsRoom : List Text → Type 0
NeedsRoom ws = SpellsLongWalk ws ⊎ SpellsText ws ⊎ SpellsLongRoute ws
