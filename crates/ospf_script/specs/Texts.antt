-- Commands as they are printed.
use Rattle.std.specs.Prelude.{ℕ, ℤ, ◌-◌, List, [], ◌++◌, Option, None, Some, codes, decimal, false, flat_map, true, length, replicate, string_bytes}
use Rattle.std.specs.Fmt.{digits}
use Rattle.std.specs.Int.{w32, cast_unsigned}
use Rattle.ospf_base.specs.Text.{number_text, prefix_text}
use Rattle.ospf_base.specs.declared.ids.Addr.{Addr}
use Rattle.ospf_base.specs.declared.ids.RouterId.{RouterId}
use Rattle.ospf_graph.specs.Text.{hop_text}
use Rattle.ospf_graph.specs.declared.hop.NextHop.{NextHop}
use Rattle.ospf_base.specs.declared.event.event.WorldEvent.{WorldEvent}
use Rattle.ospf_base.specs.declared.event.event.WorldEvent.TheVariants as event
use Rattle.ospf_script.specs.Words.{Text}
use Rattle.ospf_neighbour.specs.Text.{state_text}
use Rattle.ospf_neighbour.specs.declared.machine.NeighbourState.TheVariants as state
use Rattle.ospf_script.specs.declared.command.Command.{Command}
use Rattle.ospf_script.specs.declared.command.Command.TheVariants as command
use Rattle.ospf_script.specs.declared.command.Many.{Many}
use Rattle.ospf_script.specs.declared.command.Many.TheVariants as many
use Rattle.ospf_script.specs.declared.command.View.{View}
use Rattle.ospf_script.specs.declared.command.View.TheVariants as view
use Rattle.ospf_script.specs.declared.expected.Expected.{Expected}
use Rattle.ospf_script.specs.declared.expected.Expected.TheVariants.{Router, Walk, Agree, Headline, Settled}
use Rattle.ospf_script.specs.declared.expected.Wanted.{Wanted}
use Rattle.ospf_script.specs.declared.expected.Wanted.TheVariants.{Neighbour, NoNeighbour, Dr, Route, NoRoute}

-- hexadecimal digits in lower case, with zeros in front where they are fewer than this
unfoldable pub hexadecimal : ℕ → ℕ → Text
hexadecimal width n = replicate (width - length (digits 16 false n)) 48 ++ digits 16 false n

-- a floor: eight digits, in two's complement
abbrev pub floor_text : ℤ → Text
floor_text floor = hexadecimal 8 (cast_unsigned w32 floor)

-- each choice after a space
abbrev pub choices_text : List ℕ → Text
choices_text choices = flat_map (λ choice. codes " " ++ decimal choice) choices

-- each next hop after a space
abbrev pub spaced_hops_text : List NextHop → Text
spaced_hops_text hops = flat_map (λ hop. codes " " ++ hop_text hop) hops

-- a value, if one is given, after a space
abbrev pub given_text : {A : Type 0} → (A → Text) → Option A → Text
given_text text_of None = []
given_text text_of (Some value) = codes " " ++ text_of value

-- what is wanted of a router, with the name of its command
abbrev pub wanted_text : RouterId → Wanted → Text
wanted_text router (Neighbour other state.Full) =
    codes "expect full " ++ number_text router.0 ++ codes " " ++ number_text other.0
wanted_text router (Neighbour other state) =
    codes "expect neighbour " ++ number_text router.0 ++ codes " " ++ number_text other.0
    ++ codes " " ++ state_text state
wanted_text router (NoNeighbour link) =
    codes "expect no neighbour " ++ number_text router.0 ++ codes " " ++ decimal link
wanted_text router (Dr link dr backup) =
    codes "expect dr " ++ number_text router.0 ++ codes " " ++ decimal link ++ codes " "
    ++ number_text dr.0
    ++ given_text (λ (address : Addr). number_text address.0) backup
wanted_text router (Route prefix cost hops) =
    codes "expect route " ++ number_text router.0 ++ codes " " ++ prefix_text prefix ++ codes " "
    ++ decimal cost ++ spaced_hops_text hops.items
wanted_text router (NoRoute prefix) =
    codes "expect no route " ++ number_text router.0 ++ codes " " ++ prefix_text prefix

-- what is expected, with the name of its command
abbrev pub expected_text : Expected → Text
expected_text (Router router wanted) = wanted_text router wanted
expected_text (Walk from address cost) =
    codes "expect walk " ++ number_text from.0 ++ codes " " ++ number_text address.0
    ++ codes " arrived" ++ given_text decimal cost
expected_text Agree = codes "expect agree"
expected_text (Headline router) =
    codes "expect headline" ++ given_text (λ (r : RouterId). number_text r.0) router
expected_text Settled = codes "expect settled"

-- the command of an event
abbrev pub event_text : WorldEvent → Text
event_text (event.Start router dd_start floor) =
    codes "start " ++ number_text router.0 ++ codes " " ++ decimal dd_start ++ codes " "
    ++ floor_text floor
event_text (event.Stop router) = codes "stop " ++ number_text router.0
event_text (event.Tick router) = codes "tick " ++ number_text router.0
event_text (event.LinkUp router link) =
    codes "up " ++ number_text router.0 ++ codes " " ++ decimal link
event_text (event.LinkDown router link) =
    codes "down " ++ number_text router.0 ++ codes " " ++ decimal link
event_text (event.Deliver datagram router link) =
    codes "deliver " ++ decimal datagram ++ codes " " ++ number_text router.0 ++ codes " "
    ++ decimal link

-- the command of many events
abbrev pub many_text : Many → Text
many_text many.Start = codes "start all"
many_text many.Up = codes "up all"
many_text many.Down = codes "down all"
many_text (many.Cut network) = codes "cut " ++ number_text network.0
many_text (many.Mend network) = codes "mend " ++ number_text network.0

-- the word of what is shown of a router
abbrev pub view_text : View → Text
view_text view.Neighbours = codes "neighbours"
view_text view.Listing = codes "listing"
view_text view.Table = codes "table"
view_text view.Floor = codes "floor"

-- the line of a command
abbrev pub command_text : Command → Text
command_text (command.Event event) = event_text event
command_text (command.Many many) = many_text many
command_text (command.Round count most) = codes "round " ++ decimal count ++ given_text decimal most
command_text (command.Batch count) = codes "batch " ++ decimal count
command_text (command.Random number count) =
    codes "random " ++ decimal number ++ codes " " ++ decimal count
command_text (command.Settle most) = codes "settle " ++ decimal most
command_text (command.Show view router) = view_text view ++ codes " " ++ number_text router.0
command_text (command.Walk from address choices) =
    codes "walk " ++ number_text from.0 ++ codes " " ++ number_text address.0
    ++ choices_text choices.items
command_text (command.Say text) = codes "say " ++ string_bytes text
command_text (command.Why router link neighbour) =
    codes "why " ++ number_text router.0 ++ codes " " ++ decimal link
    ++ given_text (λ (r : RouterId). number_text r.0) neighbour
command_text (command.WhyHeadline router) = codes "why headline " ++ number_text router.0
command_text (command.Datagrams router most) =
    codes "datagrams " ++ number_text router.0 ++ given_text decimal most
command_text (command.Drops router) = codes "drops " ++ number_text router.0
command_text (command.Lsas router) = codes "lsas " ++ number_text router.0
command_text (command.Loss percent number network) =
    codes "loss " ++ decimal percent ++ codes " " ++ decimal number
    ++ given_text (λ (address : Addr). number_text address.0) network
command_text (command.Expect expected) = expected_text expected
command_text (command.Label true) = codes "label on"
command_text (command.Label false) = codes "label off"
