-- What chance does to a world, as a list of events does it.
use Rattle.std.proofs.Common.{◌≡◌, ◌<◌, ◌≤◌, ◌+◌, ◌-◌, ◌++◌, ℕ, zero, suc, Bool, true, false, List, [], ◌∷◌, Option, None, Some, Result, Ok, Err, map, length, is_some, slice_get, get_or, refl, sym, ap, subst, ◌∙◌, vec_len, arith}
use Rattle.std.specs.Prelude.{option_and_then}
use Rattle.std.proofs.lemmas.List.{length-map}
use Rattle.std.proofs.lemmas.Option.{slice_get-get_or}
use Rattle.ospf_world.specs.Draws.{chosen_of, drawn, drawn_for, drawn_in, drawn_past, words_from}
use Rattle.ospf_world.specs.declared.chance.Words.{Words}
use Rattle.ospf_config.specs.declared.config.Config.{Config}
use Rattle.ospf_world.specs.declared.logs.Datagram.{Datagram}
use Rattle.ospf_world.specs.Runs.{is_memory}
use Rattle.ospf_world.proofs.RunsFacts.{Runs-append}
use Rattle.ospf_world.specs.Headline.{IsReached}
use Rattle.ospf_world.specs.World.{Member, RunsEvents, World}
use Rattle.ospf_base.specs.declared.event.event.WorldEvent.{WorldEvent}
use Rattle.ospf_base.specs.declared.event.event.WorldFault.{WorldFault}
use Rattle.ospf_world.specs.Slots.{SlotValue, member_of}
use Rattle.ospf_router.specs.Steps.{is_dropped}
use Rattle.ospf_world.specs.Does.{Does}
use Rattle.ospf_world.specs.Random.{GoesOnWith, IsRandom, Meets}
use Rattle.ospf_world.specs.Worlds.{SameSettings, WorldValue, world_of}
use Rattle.ospf_world.proofs.ComesFacts.{does_comes}
use Rattle.ospf_world.proofs.ListFacts.{none_left, one_left}
use Rattle.rand_pcg.specs.Lcg.{Lcg}

-- ---- what is drawn

members : (slots : List SlotValue) (i : ℕ) (s : SlotValue) → slice_get slots i ≡ Some s → slice_get (map member_of slots) i ≡ Some (member_of s)
members [] i s is = absurd (cc)
members (t ∷ slots) zero s is = let same : t ≡ s = cc in ap (λ (x : SlotValue). Some (member_of x)) same
members (t ∷ slots) (suc i) s is = members slots i s is

count_is : (slots : List SlotValue) → length (map member_of slots) ≡ length slots
count_is slots = length-map slots member_of

pub drawn_none : (words : Words) (w : WorldValue) → chosen_of words.router (length w.slots) ≡ None → drawn words (world_of w) ≡ None
unfolding drawn
drawn_none words w none =
    ap (λ (n : ℕ). option_and_then (λ (place : ℕ). option_and_then (drawn_in words (length w.logs.datagrams)) (slice_get (map member_of w.slots) place)) (chosen_of words.router n)) (count_is w.slots)
    ∙ ap (λ (o : Option ℕ). option_and_then (λ (place : ℕ). option_and_then (drawn_in words (length w.logs.datagrams)) (slice_get (map member_of w.slots) place)) o) none

pub drawn_is : (words : Words) (w : WorldValue) (place : ℕ) (s : SlotValue) → chosen_of words.router (length w.slots) ≡ Some place → place < length w.slots → s ≡ get_or w.slots place s →
    drawn words (world_of w) ≡ drawn_for words s.config.router_id (vec_len s.config.interfaces) (is_some s.running) (length w.logs.datagrams)
unfolding drawn
drawn_is words w place s chosen within at =
    let get : slice_get w.slots place ≡ Some s = slice_get-get_or w.slots place s within ∙ ap (λ (x : SlotValue). Some x) (sym at) in
    ap (λ (n : ℕ). option_and_then (λ (place : ℕ). option_and_then (drawn_in words (length w.logs.datagrams)) (slice_get (map member_of w.slots) place)) (chosen_of words.router n)) (count_is w.slots)
    ∙ ap (λ (o : Option ℕ). option_and_then (λ (place : ℕ). option_and_then (drawn_in words (length w.logs.datagrams)) (slice_get (map member_of w.slots) place)) o) chosen
    ∙ ap (λ (o : Option Member). option_and_then (drawn_in words (length w.logs.datagrams)) o) (members w.slots place s get)

pub drawn_here : (words : Words) (w : WorldValue) (slots : List SlotValue) (place : ℕ) (s : SlotValue) (config : Config) (links : ℕ) (runs : Bool) (datagrams : List Datagram) →
    slots ≡ w.slots → chosen_of words.router (length slots) ≡ Some place → place < length slots → s ≡ get_or slots place s → config ≡ s.config → links ≡ vec_len config.interfaces → runs ≡ is_some s.running → datagrams ≡ w.logs.datagrams →
    drawn_for words config.router_id links runs (length datagrams) ≡ drawn words (world_of w)
drawn_here words w slots place s config links runs datagrams slots_are chosen within at config_is links_are runs_is datagrams_are =
    let links_of : links ≡ vec_len s.config.interfaces = links_are ∙ ap (λ (c : Config). vec_len c.interfaces) config_is in
    ap (λ (c : Config). drawn_for words c.router_id links runs (length datagrams)) config_is
    ∙ ap (λ (n : ℕ). drawn_for words s.config.router_id n runs (length datagrams)) links_of
    ∙ ap (λ (b : Bool). drawn_for words s.config.router_id (vec_len s.config.interfaces) b (length datagrams)) runs_is
    ∙ ap (λ (ds : List Datagram). drawn_for words s.config.router_id (vec_len s.config.interfaces) (is_some s.running) (length ds)) datagrams_are
    ∙ sym (drawn_is words w place s (subst (λ (xs : List SlotValue). chosen_of words.router (length xs) ≡ Some place) slots_are chosen) (subst (λ (xs : List SlotValue). place < length xs) slots_are within) (subst (λ (xs : List SlotValue). s ≡ get_or xs place s) slots_are at))

-- ---- what is met

pub meets_taken : (o : Option WorldEvent) (e : WorldEvent) (answer : Result (Unit {0}) WorldFault) (w w' : WorldValue) → o ≡ Some e → Does e w answer w' → answer ≡ Ok tt → Meets o w (Ok tt) w'
meets_taken o e answer w w' is does ok = Meets.Takes e is (subst (λ (r : Result (Unit {0}) WorldFault). Does e w r w') ok does) refl

pub meets_passed : (o : Option WorldEvent) (e : WorldEvent) (answer : Result (Unit {0}) WorldFault) (f : WorldFault) (w w' : WorldValue) → o ≡ Some e → Does e w answer w' → answer ≡ Err f → is_memory f ≡ false → Meets o w (Ok tt) w'
meets_passed o e answer f w w' is does err none = Meets.Passes e f is (subst (λ (r : Result (Unit {0}) WorldFault). Does e w r w') err does) none refl

pub meets_ended : (o : Option WorldEvent) (e : WorldEvent) (answer : Result (Unit {0}) WorldFault) (f : WorldFault) (w w' : WorldValue) → o ≡ Some e → Does e w answer w' → answer ≡ Err f → is_memory f ≡ true → Meets o w (Err f) w'
meets_ended o e answer f w w' is does err memory = Meets.Ends e f is (subst (λ (r : Result (Unit {0}) WorldFault). Does e w r w') err does) memory refl

-- ---- one event after another

-- the rest of the events is what is still to come
abbrev pub Comes_to : ℕ → Lcg → WorldValue → ℕ → Lcg → WorldValue → Type 0
Comes_to count g before left g' now = (result : Result (Unit {0}) WorldFault) (after : WorldValue) → IsRandom left g' now result after → IsRandom count g before result after

pub random_more : (count i : ℕ) (g g' g'' : Lcg) (words : Words) (o : Option WorldEvent) (answer : Result (Unit {0}) WorldFault) (before now next : WorldValue) → i < count → (words, g'') ≡ words_from g' → o ≡ drawn words (world_of now) →
    Meets o now answer next → answer ≡ Ok tt → Comes_to count g before (count - i) g' now → Comes_to count g before (count - (i + 1)) g'' next
random_more count i g g' g'' words o answer before now next within draws is meets ok comes = λ result after rest.
    let words_are : words ≡ (words_from g').0 = ap (λ (p : Words × Lcg). p.0) draws in
    let next_is : g'' ≡ (words_from g').1 = ap (λ (p : Words × Lcg). p.1) draws in
    let event : o ≡ drawn (words_from g').0 (world_of now) = is ∙ ap (λ (ws : Words). drawn ws (world_of now)) words_are in
    let part : Meets (drawn (words_from g').0 (world_of now)) now (Ok tt) next = subst (λ (x : Option WorldEvent). Meets x now (Ok tt) next) event (subst (λ (r : Result (Unit {0}) WorldFault). Meets o now r next) ok meets) in
    let more : IsRandom (count - (i + 1)) (words_from g').1 next result after = subst (λ (h : Lcg). IsRandom (count - (i + 1)) h next result after) next_is rest in
    let all : IsRandom (suc (count - (i + 1))) g' now result after = GoesOnWith.Further next part more in
    comes result after (subst (λ (n : ℕ). IsRandom n g' now result after) (sym (one_left count i within)) all)

pub random_ends : (count i : ℕ) (g g' g'' : Lcg) (words : Words) (o : Option WorldEvent) (answer : Result (Unit {0}) WorldFault) (before now next : WorldValue) (f : WorldFault) → i < count → (words, g'') ≡ words_from g' → o ≡ drawn words (world_of now) →
    Meets o now answer next → answer ≡ Err f → Comes_to count g before (count - i) g' now → IsRandom count g before (Err f) next
random_ends count i g g' g'' words o answer before now next f within draws is meets err comes =
    let words_are : words ≡ (words_from g').0 = ap (λ (p : Words × Lcg). p.0) draws in
    let event : o ≡ drawn (words_from g').0 (world_of now) = is ∙ ap (λ (ws : Words). drawn ws (world_of now)) words_are in
    let part : Meets (drawn (words_from g').0 (world_of now)) now (Err f) next = subst (λ (x : Option WorldEvent). Meets x now (Err f) next) event (subst (λ (r : Result (Unit {0}) WorldFault). Meets o now r next) err meets) in
    let all : IsRandom (suc (count - (i + 1))) g' now (Err f) next = GoesOnWith.Ended f part refl in
    comes (Err f) next (subst (λ (n : ℕ). IsRandom n g' now (Err f) next) (sym (one_left count i within)) all)

pub random_done : (count i : ℕ) (g g' : Lcg) (before now : WorldValue) → count ≤ i → Comes_to count g before (count - i) g' now → IsRandom count g before (Ok tt) now
random_done count i g g' before now all comes =
    let rest : IsRandom zero g' now (Ok tt) now = (refl, refl) in
    comes (Ok tt) now (subst (λ (n : ℕ). IsRandom n g' now (Ok tt) now) (sym (none_left count i all)) rest)

-- ---- the generator

drawn_once : (i : ℕ) (g : Lcg) → drawn_past (suc i) g ≡ (words_from (drawn_past i g)).1
drawn_once zero g = refl
drawn_once (suc i) g = drawn_once i (words_from g).1

pub drawn_more : (i : ℕ) (g g' g'' : Lcg) (words : Words) → (words, g'') ≡ words_from g' → g' ≡ drawn_past i g → g'' ≡ drawn_past (i + 1) g
drawn_more i g g' g'' words draws is =
    let next : g'' ≡ (words_from g').1 = ap (λ (p : Words × Lcg). p.1) draws in
    let one : i + 1 ≡ suc i = omega arith in
    next ∙ ap (λ (h : Lcg). (words_from h).1) is ∙ sym (drawn_once i g) ∙ ap (λ (n : ℕ). drawn_past n g) (sym one)

pub drawn_all : (count i : ℕ) (g g' : Lcg) → count ≤ i → i ≤ count → g' ≡ drawn_past i g → g' ≡ drawn_past count g
drawn_all count i g g' all within is = let same : i ≡ count = omega (arith, all, within) in is ∙ ap (λ (n : ℕ). drawn_past n g) same

-- ---- as a list of events

abbrev pub LeadsOn : World → World → Type 0
LeadsOn before after = (later : List WorldEvent) × RunsEvents is_dropped later before after

pub leads_nowhere : (w w' : World) → w' ≡ w → LeadsOn w w'
leads_nowhere w w' same = ([], same)

pub leads_further : (u v w : World) → LeadsOn u v → LeadsOn v w → LeadsOn u w
leads_further u v w a b = (a.0 ++ b.0, Runs-append is_dropped a.0 b.0 u v w a.1 b.1)

leads_once : (e : WorldEvent) (result : Result (Unit {0}) WorldFault) (w w' : WorldValue) → Does e w result w' → LeadsOn (world_of w) (world_of w')
leads_once e result w w' does = (e ∷ [], (world_of w', (result, does_comes e w w' result does), refl))

meets_leads : (o : Option WorldEvent) (w w' : WorldValue) (answer : Result (Unit {0}) WorldFault) → Meets o w answer w' → LeadsOn (world_of w) (world_of w')
meets_leads o w w' answer (Meets.Nothing none ok same) = leads_nowhere (world_of w) (world_of w') (ap world_of same)
meets_leads o w w' answer (Meets.Takes e is does ok) = leads_once e (Ok tt) w w' does
meets_leads o w w' answer (Meets.Passes e f is does none ok) = leads_once e (Err f) w w' does
meets_leads o w w' answer (Meets.Ends e f is does memory err) = leads_once e (Err f) w w' does

pub random_leads : (count : ℕ) (g : Lcg) (w w' : WorldValue) (result : Result (Unit {0}) WorldFault) → IsRandom count g w result w' → LeadsOn (world_of w) (world_of w')
random_leads zero g w w' result same = leads_nowhere (world_of w) (world_of w') (ap world_of same.0)
random_leads (suc count) g w w' result (GoesOnWith.Further mid part rest) =
    leads_further (world_of w) (world_of mid) (world_of w') (meets_leads (drawn (words_from g).0 (world_of w)) w mid (Ok tt) part) (random_leads count (words_from g).1 mid w' result rest)
random_leads (suc count) g w w' result (GoesOnWith.Ended f part is) = meets_leads (drawn (words_from g).0 (world_of w)) w w' (Err f) part

-- a world that was reached leads to worlds that are
pub reached_on : (w w' : World) → IsReached is_dropped w → LeadsOn w w' → IsReached is_dropped w'
reached_on w w' reached leads =
    (reached.0 ++ leads.0, record { start = reached.1.start; new = reached.1.new; runs = Runs-append is_dropped reached.0 leads.0 reached.1.start w w' reached.1.runs leads.1 })

pub same_on : (w mid w' : WorldValue) → SameSettings w mid → SameSettings mid w' → SameSettings w w'
same_on w mid w' a b = record { configs = b.configs ∙ a.configs; offered = b.offered ∙ a.offered }
