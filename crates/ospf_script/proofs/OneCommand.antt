-- Words spell one command at most.
use Rattle.std.specs.Prelude.{⊤}
use Rattle.std.specs.List.{AllZip}
use Rattle.std.proofs.Common.{◌≡◌, inl, inr, ℕ, ℤ, Bool, true, false, Option, None, Some, List, [], ◌∷◌, codes, refl, subst, sym, ap, ◌∙◌}
use Rattle.ospf_base.specs.declared.ids.Addr.{Addr}
use Rattle.ospf_base.specs.declared.ids.RouterId.{RouterId}
use Rattle.ospf_base.specs.declared.event.event.WorldEvent.{WorldEvent}
use Rattle.ospf_base.specs.declared.event.event.WorldEvent.TheVariants as event
use Rattle.ospf_script.specs.Commands.{AreDatagramWords, AreNumbers, AreRoundWords, BeginsWalk, IsAddressAlone, IsAll, IsCountAlone, IsDelivery, IsLossWords, IsRouterAlone, IsRouterAndLink, IsStart, IsSwitch, IsWalkWords, IsWhy, IsWhyHeadline, TakesWords, TakesEventWords, TakesMany, name_of_command, name_of_event, name_of_many}
use Rattle.ospf_script.specs.Laws.{IsOneCommand, WordsSpellOneCommand}
use Rattle.ospf_script.specs.Values.{IsDecimal, IsFloor, IsRouterWord, no_floor}
use Rattle.ospf_script.specs.Words.{Text}
use Rattle.ospf_script.specs.declared.command.Command.{Command}
use Rattle.ospf_script.specs.declared.command.Command.TheVariants as command
use Rattle.ospf_script.specs.declared.command.Many.{Many}
use Rattle.ospf_script.specs.declared.command.Many.TheVariants as many
use Rattle.ospf_script.specs.declared.name.Name.{Name}
use Rattle.ospf_script.specs.declared.name.Name.TheVariants as names
use Rattle.ospf_script.proofs.Expecting.{expected_one, spelled_one}
use Rattle.ospf_script.proofs.Plain.{headline_is_no_router}
use Rattle.ospf_script.proofs.OneValue.{address_one, decimal_one, floor_one, percent_one, router_one}
use Rattle.ospf_script.proofs.Unspelled.{IsOfEvents, event_name, many_name, word_is_one}

-- ---- what commands take

choices_one : (ws : List Text) (cs ds : List ℕ) → AllZip (IsDecimal 32) ws cs → AllZip (IsDecimal 32) ws ds → cs ≡ ds
choices_one = spelled_one (IsDecimal 32) (decimal_one 32)

router_alone_one : (ws : List Text) (r s : RouterId) → IsRouterAlone ws r → IsRouterAlone ws s → r ≡ s
router_alone_one (a ∷ []) r s h k = router_one a r s h k
router_alone_one ws r s h k = absurd h

count_one : (ws : List Text) (m n : ℕ) → IsCountAlone ws m → IsCountAlone ws n → m ≡ n
count_one (a ∷ []) m n h k = decimal_one 64 a m n h k
count_one ws m n h k = absurd h

router_and_link_one : (ws : List Text) (r s : RouterId) (m n : ℕ) → IsRouterAndLink ws r m → IsRouterAndLink ws s n → (r ≡ s) × (m ≡ n)
router_and_link_one (a ∷ b ∷ []) r s m n h k = (router_one a r s h.0 k.0, decimal_one 64 b m n h.1 k.1)
router_and_link_one ws r s m n h k = absurd h

numbers_one : (ws : List Text) (m n i j : ℕ) → AreNumbers ws m i → AreNumbers ws n j → (m ≡ n) × (i ≡ j)
numbers_one (a ∷ b ∷ []) m n i j h k = (decimal_one 64 a m n h.0 k.0, decimal_one 64 b i j h.1 k.1)
numbers_one ws m n i j h k = absurd h

rounds_one : (ws : List Text) (m n : ℕ) (i j : Option ℕ) → AreRoundWords ws m i → AreRoundWords ws n j → (m ≡ n) × (i ≡ j)
rounds_one ws m n None None h k = (count_one ws m n h k, refl)
rounds_one ws m n (Some i) (Some j) h k =
    let all = numbers_one ws m n i j h k in
    (all.0, ap (λ most. Some most) all.1)
rounds_one (a ∷ []) m n None (Some j) h k = absurd k
rounds_one ws m n None (Some j) h k = absurd h
rounds_one (a ∷ []) m n (Some i) None h k = absurd h
rounds_one ws m n (Some i) None h k = absurd k

delivery_one : (ws : List Text) (m n : ℕ) (r s : RouterId) (i j : ℕ) → IsDelivery ws m r i → IsDelivery ws n s j → (m ≡ n) × (r ≡ s) × (i ≡ j)
delivery_one (a ∷ b ∷ c ∷ []) m n r s i j h k = (decimal_one 64 a m n h.0 k.0, router_one b r s h.1 k.1, decimal_one 64 c i j h.2 k.2)
delivery_one ws m n r s i j h k = absurd h

why_one : (ws : List Text) (r s : RouterId) (m n : ℕ) (i j : Option RouterId) → IsWhy ws r m i → IsWhy ws s n j → (r ≡ s) × (m ≡ n) × (i ≡ j)
why_one ws r s m n None None h k =
    let all = router_and_link_one ws r s m n h k in
    (all.0, all.1, refl)
why_one (a ∷ b ∷ c ∷ []) r s m n (Some i) (Some j) h k = (router_one a r s h.0 k.0, decimal_one 64 b m n h.1 k.1, ap (λ x. Some x) (router_one c i j h.2 k.2))
why_one (a ∷ b ∷ []) r s m n None (Some j) h k = absurd k
why_one ws r s m n None (Some j) h k = absurd h
why_one (a ∷ b ∷ []) r s m n (Some i) None h k = absurd h
why_one ws r s m n (Some i) None h k = absurd k
why_one ws r s m n (Some i) (Some j) h k = absurd h

why_headline_one : (ws : List Text) (r s : RouterId) → IsWhyHeadline ws r → IsWhyHeadline ws s → r ≡ s
why_headline_one (a ∷ b ∷ []) r s h k = router_one b r s h.1 k.1
why_headline_one ws r s h k = absurd h

-- the word `headline` is no router whose link is asked about
why_not_headline : (ws : List Text) (r s : RouterId) (m : ℕ) (i : Option RouterId) → IsWhy ws r m i → IsWhyHeadline ws s → ⊥
why_not_headline (a ∷ b ∷ []) r s m None h k = headline_is_no_router a r k.0 h.0
why_not_headline (a ∷ b ∷ []) r s m (Some i) h k = h
why_not_headline ws r s m i h k = k

datagrams_one : (ws : List Text) (r s : RouterId) (i j : Option ℕ) → AreDatagramWords ws r i → AreDatagramWords ws s j → (r ≡ s) × (i ≡ j)
datagrams_one (a ∷ []) r s None None h k = (router_one a r s h k, refl)
datagrams_one (a ∷ b ∷ []) r s (Some i) (Some j) h k = (router_one a r s h.0 k.0, ap (λ most. Some most) (decimal_one 64 b i j h.1 k.1))
datagrams_one (a ∷ []) r s None (Some j) h k = absurd k
datagrams_one ws r s None (Some j) h k = absurd h
datagrams_one (a ∷ []) r s (Some i) None h k = absurd h
datagrams_one ws r s (Some i) None h k = absurd k
datagrams_one ws r s i j h k = absurd h

loss_one : (ws : List Text) (p q m n : ℕ) (i j : Option Addr) → IsLossWords ws p m i → IsLossWords ws q n j → (p ≡ q) × (m ≡ n) × (i ≡ j)
loss_one (a ∷ b ∷ []) p q m n None None h k = (percent_one a p q h.0 k.0, decimal_one 64 b m n h.1 k.1, refl)
loss_one (a ∷ b ∷ c ∷ []) p q m n (Some i) (Some j) h k = (percent_one a p q h.0 k.0, decimal_one 64 b m n h.1 k.1, ap (λ x. Some x) (address_one c i j h.2 k.2))
loss_one (a ∷ b ∷ []) p q m n None (Some j) h k = absurd k
loss_one ws p q m n None (Some j) h k = absurd h
loss_one (a ∷ b ∷ []) p q m n (Some i) None h k = absurd h
loss_one ws p q m n (Some i) None h k = absurd k
loss_one ws p q m n i j h k = absurd h

-- a start by the number of its words
StartOf : List Text → RouterId → ℕ → ℤ → Type 0
StartOf (a ∷ b ∷ []) r n f = IsRouterWord a r × IsDecimal 32 b n × (f ≡ no_floor)
StartOf (a ∷ b ∷ c ∷ []) r n f = IsRouterWord a r × IsDecimal 32 b n × IsFloor c f
StartOf _ r n f = ⊥

start_of : (ws : List Text) (r : RouterId) (n : ℕ) (f : ℤ) → IsStart ws r n f → StartOf ws r n f
unfolding StartOf
start_of (a ∷ b ∷ []) r n f h = elim h [ inl x ↦ x | inr x ↦ absurd x ]
start_of (a ∷ b ∷ c ∷ []) r n f h = elim h [ inl x ↦ absurd x | inr x ↦ x ]
start_of _ r n f h = elim h [ inl x ↦ absurd x | inr x ↦ absurd x ]

start_one : (ws : List Text) (r s : RouterId) (m n : ℕ) (f g : ℤ) → StartOf ws r m f → StartOf ws s n g → (r ≡ s) × (m ≡ n) × (f ≡ g)
unfolding StartOf
start_one (a ∷ b ∷ []) r s m n f g h k = (router_one a r s h.0 k.0, decimal_one 32 b m n h.1 k.1, h.2 ∙ sym k.2)
start_one (a ∷ b ∷ c ∷ []) r s m n f g h k = (router_one a r s h.0 k.0, decimal_one 32 b m n h.1 k.1, floor_one c f g h.2 k.2)
start_one _ r s m n f g h k = absurd h

ends_one : (ws : List Text) (r s : RouterId) (a b : Addr) (us vs : List Text) → BeginsWalk ws r a us → BeginsWalk ws s b vs → (r ≡ s) × (a ≡ b) × (us ≡ vs)
ends_one (x ∷ y ∷ ws) r s a b us vs h k = (router_one x r s h.0 k.0, address_one y a b h.1 k.1, sym h.2 ∙ k.2)
ends_one _ r s a b us vs h k = absurd h

walk_one : (ws : List Text) (r s : RouterId) (a b : Addr) (cs ds : List ℕ) → IsWalkWords ws r a cs → IsWalkWords ws s b ds → (r ≡ s) × (a ≡ b) × (cs ≡ ds)
walk_one ws r s a b cs ds h k =
    let ends = ends_one ws r s a b h.0 k.0 h.1 k.1 in
    let there : AllZip (IsDecimal 32) k.0 cs = rw ends.2 at h.2 in
    (ends.0, ends.1, choices_one k.0 cs ds there k.2)

-- one word is no Router ID with other words
start_not_all : (ws : List Text) (r : RouterId) (n : ℕ) (f : ℤ) → IsStart ws r n f → IsAll ws → ⊥
start_not_all ws r n f h all = let one : IsStart (codes "all" ∷ []) r n f = rw all at h in elim one [ inl x ↦ x | inr x ↦ x ]

link_not_all : (ws : List Text) (r : RouterId) (n : ℕ) → IsRouterAndLink ws r n → IsAll ws → ⊥
link_not_all ws r n h all = rw all at h

address_alone_one : (ws : List Text) (a b : Addr) → IsAddressAlone ws a → IsAddressAlone ws b → a ≡ b
address_alone_one (w ∷ []) a b h k = address_one w a b h k
address_alone_one ws a b h k = absurd h

on_is_not_off : (ws : List Text) → IsSwitch ws true → IsSwitch ws false → ⊥
on_is_not_off ws h k = let same : codes "on" ∷ [] ≡ codes "off" ∷ [] = sym h ∙ k in cc

switch_one : (ws : List Text) (a b : Bool) → IsSwitch ws a → IsSwitch ws b → a ≡ b
switch_one ws true true h k = refl
switch_one ws false false h k = refl
switch_one ws true false h k = absurd (on_is_not_off ws h k)
switch_one ws false true h k = absurd (on_is_not_off ws k h)

-- ---- events

event_one : (ws : List Text) (c d : WorldEvent) → name_of_event c ≡ name_of_event d → TakesEventWords c ws → TakesEventWords d ws → c ≡ d
event_one ws (event.Start r m f) (event.Start s n g) e h k =
    let all = start_one ws r s m n f g (start_of ws r m f h) (start_of ws s n g k) in
    let one = all.0 in let two = all.1 in let three = all.2 in cc
event_one ws (event.Stop r) (event.Stop s) e h k = ap event.Stop (router_alone_one ws r s h k)
event_one ws (event.Tick r) (event.Tick s) e h k = ap event.Tick (router_alone_one ws r s h k)
event_one ws (event.LinkUp r m) (event.LinkUp s n) e h k =
    let all = router_and_link_one ws r s m n h k in
    let one = all.0 in let two = all.1 in cc
event_one ws (event.LinkDown r m) (event.LinkDown s n) e h k =
    let all = router_and_link_one ws r s m n h k in
    let one = all.0 in let two = all.1 in cc
event_one ws (event.Deliver m r i) (event.Deliver n s j) e h k =
    let all = delivery_one ws m n r s i j h k in
    let one = all.0 in let two = all.1 in let three = all.2 in cc
event_one ws c d e h k = let none : ⊥ = cc in absurd none

many_one : (ws : List Text) (c d : Many) → name_of_many c ≡ name_of_many d → TakesMany c ws → TakesMany d ws → c ≡ d
many_one ws many.Start many.Start e h k = refl
many_one ws many.Up many.Up e h k = refl
many_one ws many.Down many.Down e h k = refl
many_one ws (many.Cut a) (many.Cut b) e h k = ap many.Cut (address_alone_one ws a b h k)
many_one ws (many.Mend a) (many.Mend b) e h k = ap many.Mend (address_alone_one ws a b h k)
many_one ws c d e h k = let none : ⊥ = cc in absurd none

-- the name is one of events at many routers
IsOfMany : Name → Type 0
IsOfMany names.Start = ⊤
IsOfMany names.Up = ⊤
IsOfMany names.Down = ⊤
IsOfMany names.Cut = ⊤
IsOfMany names.Mend = ⊤
IsOfMany _ = ⊥

is_of_many : (m : Many) → IsOfMany (name_of_many m)
unfolding IsOfMany
is_of_many many.Start = tt
is_of_many many.Up = tt
is_of_many many.Down = tt
is_of_many (many.Cut network) = tt
is_of_many (many.Mend network) = tt

-- an event is none at many routers
event_not_many : (ws : List Text) (c : WorldEvent) (d : Many) → name_of_event c ≡ name_of_many d → TakesEventWords c ws → TakesMany d ws → ⊥
unfolding IsOfMany
event_not_many ws (event.Start r m f) many.Start e h k = start_not_all ws r m f h k
event_not_many ws (event.LinkUp r m) many.Up e h k = link_not_all ws r m h k
event_not_many ws (event.LinkDown r m) many.Down e h k = link_not_all ws r m h k
event_not_many ws (event.Start r m f) d e h k = cc
event_not_many ws (event.LinkUp r m) d e h k = cc
event_not_many ws (event.LinkDown r m) d e h k = cc
event_not_many ws c d e h k = subst IsOfMany (sym e) (is_of_many d)

-- ---- commands

takes_one : (ws : List Text) (c d : Command) → name_of_command c ≡ name_of_command d → TakesWords c ws → TakesWords d ws → IsOneCommand c d
takes_one ws (command.Event c) (command.Event d) e h k = ap command.Event (event_one ws c d e h k)
takes_one ws (command.Event c) (command.Many d) e h k = absurd (event_not_many ws c d e h k)
takes_one ws (command.Many c) (command.Many d) e h k = ap command.Many (many_one ws c d e h k)
takes_one ws (command.Many c) (command.Event d) e h k = absurd (event_not_many ws d c (sym e) k h)
takes_one ws (command.Round m i) (command.Round n j) e h k =
    let all = rounds_one ws m n i j h k in
    let one = all.0 in let two = all.1 in cc
takes_one ws (command.Batch m) (command.Batch n) e h k = ap command.Batch (count_one ws m n h k)
takes_one ws (command.Random m i) (command.Random n j) e h k =
    let all = numbers_one ws m n i j h k in
    let one = all.0 in let two = all.1 in cc
takes_one ws (command.Settle m) (command.Settle n) e h k = ap command.Settle (count_one ws m n h k)
takes_one ws (command.Show v r) (command.Show w s) e h k =
    let one : v ≡ w = cc in let two = router_alone_one ws r s h k in cc
takes_one ws (command.Walk r a cs) (command.Walk s b ds) e h k = walk_one ws r s a b cs.items ds.items h k
takes_one ws (command.Say text) (command.Say other) e h k = h ∙ sym k
takes_one ws (command.Why r m i) (command.Why s n j) e h k =
    let all = why_one ws r s m n i j h k in
    let one = all.0 in let two = all.1 in let three = all.2 in cc
takes_one ws (command.WhyHeadline r) (command.WhyHeadline s) e h k = ap command.WhyHeadline (why_headline_one ws r s h k)
takes_one ws (command.Why r m i) (command.WhyHeadline s) e h k = absurd (why_not_headline ws r s m i h k)
takes_one ws (command.WhyHeadline r) (command.Why s n j) e h k = absurd (why_not_headline ws s r n j k h)
takes_one ws (command.Datagrams r i) (command.Datagrams s j) e h k =
    let all = datagrams_one ws r s i j h k in
    let one = all.0 in let two = all.1 in cc
takes_one ws (command.Drops r) (command.Drops s) e h k = ap command.Drops (router_alone_one ws r s h k)
takes_one ws (command.Lsas r) (command.Lsas s) e h k = ap command.Lsas (router_alone_one ws r s h k)
takes_one ws (command.Loss p m i) (command.Loss q n j) e h k =
    let all = loss_one ws p q m n i j h k in
    let one = all.0 in let two = all.1 in let three = all.2 in cc
takes_one ws (command.Expect x) (command.Expect y) e h k = expected_one ws x y h k
takes_one ws (command.Label a) (command.Label b) e h k = ap command.Label (switch_one ws a b h k)
takes_one ws (command.Event c) d e h k = absurd (subst IsOfEvents e (event_name c))
takes_one ws (command.Many c) d e h k = absurd (subst IsOfEvents e (many_name c))
takes_one ws c (command.Event d) e h k = absurd (subst IsOfEvents (sym e) (event_name d))
takes_one ws c (command.Many d) e h k = absurd (subst IsOfEvents (sym e) (many_name d))
takes_one ws c d e h k = let none : ⊥ = cc in absurd none

pub one_command : WordsSpellOneCommand
one_command [] c d h k = absurd h
one_command (a ∷ ws) c d h k = takes_one ws c d (word_is_one a (name_of_command c) (name_of_command d) h.0 k.0) h.1 k.1
