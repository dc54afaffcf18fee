-- What is drawn at random in a world.
use Rattle.std.specs.Prelude.{◌==◌, ◌%◌, ℕ, zero, suc, Bool, Option, None, Some, length, slice_get, is_some, nat_lt, option_map, option_and_then, if◌then◌else◌}
use Rattle.rand_pcg.specs.Lcg.{Lcg}
use Rattle.rand_pcg.specs.Pcg.{pcg32}
use Rattle.ospf_base.specs.declared.ids.RouterId.{RouterId}
use Rattle.ospf_area.specs.Updates.Removal.{lowest_number}
use Rattle.ospf_world.specs.declared.chance.Words.{Words}
use Rattle.ospf_world.specs.World.{Member, World}
use Rattle.ospf_base.specs.declared.event.event.WorldEvent.{WorldEvent}
use Rattle.ospf_base.specs.declared.event.event.WorldEvent.TheVariants.{Start, Stop, Tick, LinkUp, LinkDown, Deliver}

-- the next four words of a generator
unfoldable pub words_from : Lcg → Words × Lcg
words_from g =
    let first = pcg32 g in
    let second = pcg32 first.1 in
    let third = pcg32 second.1 in
    let fourth = pcg32 third.1 in
    (record { kind = first.0; router = second.0; link = third.0; number = fourth.0 }, fourth.1)

-- a generator after the words of this many events
abbrev pub drawn_past : ℕ → Lcg → Lcg
drawn_past zero g = g
drawn_past (suc count) g = drawn_past count (words_from g).1

-- which of this many things a word chooses; none where there are none
unfoldable pub chosen_of : (word count : ℕ) → Option ℕ
chosen_of word count = if count == 0 then None else Some (word % count)

-- a delivery, where there is a link and a datagram
unfoldable pub drawn_delivery : Words → RouterId → (links datagrams : ℕ) → Option WorldEvent
drawn_delivery words r links datagrams =
    option_and_then (λ l. option_map (λ d. Deliver d r l) (chosen_of words.number datagrams))
    (chosen_of words.link links)

-- one of the router's links, drawn, comes up
unfoldable pub drawn_link_up : Words → RouterId → (links : ℕ) → Option WorldEvent
drawn_link_up words r links = option_map (λ l. LinkUp r l) (chosen_of words.link links)

-- one of the router's links, drawn, goes down
unfoldable pub drawn_link_down : Words → RouterId → (links : ℕ) → Option WorldEvent
drawn_link_down words r links = option_map (λ l. LinkDown r l) (chosen_of words.link links)

-- a stop of a router that runs, or the start of one that does not
abbrev pub drawn_turn : Words → RouterId → Bool → WorldEvent
drawn_turn words r is_running = if is_running then Stop r else Start r words.number lowest_number

-- what is drawn at a router that has this many links and runs or does not,
-- where this many datagrams were sent
unfoldable pub drawn_for : Words → RouterId → (links : ℕ) → Bool → (datagrams : ℕ)
    → Option WorldEvent
drawn_for words r links is_running datagrams =
    let part = words.kind % 16 in
    if nat_lt part 6 then Some (Tick r)
    else if nat_lt part 13 then drawn_delivery words r links datagrams
    else if part == 13 then drawn_link_up words r links
    else if part == 14 then drawn_link_down words r links
    else Some (drawn_turn words r is_running)

-- what is drawn at one of a world's routers
abbrev pub drawn_in : Words → ℕ → Member → Option WorldEvent
drawn_in words datagrams m = drawn_for words m.router m.links (is_some m.running) datagrams

-- what is drawn in a world; where there is no router, nothing
unfoldable pub drawn : Words → World → Option WorldEvent
drawn words w =
    option_and_then
    (λ place. option_and_then (drawn_in words (length w.datagrams)) (slice_get w.routers place))
    (chosen_of words.router (length w.routers))
