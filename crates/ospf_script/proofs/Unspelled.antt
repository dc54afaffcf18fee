-- Where words are not what a command takes, they spell no command of that name.
use Rattle.std.specs.Prelude.{⊤, String, string_bytes}
use Rattle.std.specs.declared.alloc.Global.{Global}
use Rattle.std.proofs.Common.{inl, inr, ◌≡◌, ◌==◌, if◌then◌else◌, ℕ, ◌+◌, ◌*◌, List, [], ◌∷◌, length, get_or, Option, None, Some, refl, subst, sym, ap, ◌∙◌}
use Rattle.ospf_base.specs.declared.ids.Addr.{Addr}
use Rattle.ospf_base.specs.declared.ids.RouterId.{RouterId}
use Rattle.ospf_base.specs.declared.event.event.WorldEvent.{WorldEvent}
use Rattle.ospf_base.specs.declared.event.event.WorldEvent.TheVariants as event
use Rattle.ospf_script.specs.Commands.{AreDatagramWords, AreNumbers, AreRoundWords, IsLossWords, IsNamedCommand, IsRouterAlone, IsRouterAndLink, IsUnreadable, IsWalkWords, IsWhy, IsWhyHeadline, SpellsCommand, TakesWords, name_of_command, name_of_event, name_of_many, spaced}
use Rattle.ospf_script.specs.Names.{IsWordOf}
use Rattle.ospf_base.specs.Text.{IsBlank}
use Rattle.ospf_script.specs.Words.{Text, line_words}
use Rattle.ospf_script.proofs.Parts.{words-blank}
use Rattle.ospf_script.specs.declared.command.Command.{Command}
use Rattle.ospf_script.specs.declared.command.Command.TheVariants as command
use Rattle.ospf_script.specs.declared.command.Many.{Many}
use Rattle.ospf_script.specs.declared.command.Many.TheVariants as many
use Rattle.ospf_script.specs.declared.command.View.{View}
use Rattle.ospf_script.specs.declared.command.View.TheVariants as view
use Rattle.ospf_script.specs.declared.name.Name.{Name}
use Rattle.ospf_script.specs.declared.name.Name.TheVariants as names

-- the words spell no command of this name
abbrev pub IsNone : Name → List Text → Type 0
IsNone name ws = (c : Command) → IsNamedCommand name ws c → ⊥

-- ---- names of events

-- the name is one of events
abbrev pub IsOfEvents : Name → Type 0
IsOfEvents names.Start = ⊤
IsOfEvents names.Stop = ⊤
IsOfEvents names.Tick = ⊤
IsOfEvents names.Up = ⊤
IsOfEvents names.Down = ⊤
IsOfEvents names.Deliver = ⊤
IsOfEvents names.Cut = ⊤
IsOfEvents names.Mend = ⊤
IsOfEvents _ = ⊥

pub event_name : (e : WorldEvent) → IsOfEvents (name_of_event e)
event_name (event.Start router dd_start floor) = tt
event_name (event.Stop router) = tt
event_name (event.Tick router) = tt
event_name (event.LinkUp router link) = tt
event_name (event.LinkDown router link) = tt
event_name (event.Deliver datagram router link) = tt

pub many_name : (m : Many) → IsOfEvents (name_of_many m)
many_name many.Start = tt
many_name many.Up = tt
many_name many.Down = tt
many_name (many.Cut network) = tt
many_name (many.Mend network) = tt

-- ---- no command

pub no_walk : (ws : List Text) → ((from : RouterId) (address : Addr) (choices : List ℕ) → IsWalkWords ws from address choices → ⊥) → IsNone names.Walk ws
no_walk ws h (command.Event e) is = subst IsOfEvents is.0 (event_name e)
no_walk ws h (command.Many m) is = subst IsOfEvents is.0 (many_name m)
no_walk ws h (command.Walk from address choices) is = h from address choices.items is.1
no_walk ws h c is = let e = is.0 in cc

pub no_text : (ws : List Text) → ((said : String Global) → string_bytes said ≡ spaced ws → ⊥) → IsNone names.Say ws
no_text ws h (command.Event e) is = subst IsOfEvents is.0 (event_name e)
no_text ws h (command.Many m) is = subst IsOfEvents is.0 (many_name m)
no_text ws h (command.Say said) is = h said is.1
no_text ws h c is = let e = is.0 in cc

pub no_random : (ws : List Text) → ((found : ℕ × ℕ) → AreNumbers ws found.0 found.1 → ⊥) → IsNone names.Random ws
no_random ws h (command.Event e) is = subst IsOfEvents is.0 (event_name e)
no_random ws h (command.Many m) is = subst IsOfEvents is.0 (many_name m)
no_random ws h (command.Random number count) is = h (number, count) is.1
no_random ws h c is = let e = is.0 in cc

pub no_view : (ws : List Text) (view : View) → ((router : RouterId) → IsRouterAlone ws router → ⊥) → IsNone (names.Show view) ws
no_view ws view h (command.Event e) is = subst IsOfEvents is.0 (event_name e)
no_view ws view h (command.Many m) is = subst IsOfEvents is.0 (many_name m)
no_view ws view h (command.Show other router) is = h router is.1
no_view ws view h c is = let e = is.0 in cc

pub no_round : (ws : List Text) → ((found : ℕ × Option ℕ) → AreRoundWords ws found.0 found.1 → ⊥) → IsNone names.Round ws
no_round ws h (command.Event e) is = subst IsOfEvents is.0 (event_name e)
no_round ws h (command.Many m) is = subst IsOfEvents is.0 (many_name m)
no_round ws h (command.Round count most) is = h (count, most) is.1
no_round ws h c is = let e = is.0 in cc

pub no_why : (ws : List Text) → ((router : RouterId) → IsWhyHeadline ws router → ⊥) → ((found : RouterId × ℕ × Option RouterId) → IsWhy ws found.0 found.1 found.2 → ⊥)
    → IsNone names.Why ws
no_why ws g h (command.Event e) is = subst IsOfEvents is.0 (event_name e)
no_why ws g h (command.Many m) is = subst IsOfEvents is.0 (many_name m)
no_why ws g h (command.Why router link neighbour) is = h (router, link, neighbour) is.1
no_why ws g h (command.WhyHeadline router) is = g router is.1
no_why ws g h c is = let e = is.0 in cc

pub no_datagrams : (ws : List Text) → ((found : RouterId × Option ℕ) → AreDatagramWords ws found.0 found.1 → ⊥) → IsNone names.Datagrams ws
no_datagrams ws h (command.Event e) is = subst IsOfEvents is.0 (event_name e)
no_datagrams ws h (command.Many m) is = subst IsOfEvents is.0 (many_name m)
no_datagrams ws h (command.Datagrams router most) is = h (router, most) is.1
no_datagrams ws h c is = let e = is.0 in cc

pub no_drops : (ws : List Text) → ((router : RouterId) → IsRouterAlone ws router → ⊥) → IsNone names.Drops ws
no_drops ws h (command.Event e) is = subst IsOfEvents is.0 (event_name e)
no_drops ws h (command.Many m) is = subst IsOfEvents is.0 (many_name m)
no_drops ws h (command.Drops router) is = h router is.1
no_drops ws h c is = let e = is.0 in cc

pub no_lsas : (ws : List Text) → ((router : RouterId) → IsRouterAlone ws router → ⊥) → IsNone names.Lsas ws
no_lsas ws h (command.Event e) is = subst IsOfEvents is.0 (event_name e)
no_lsas ws h (command.Many m) is = subst IsOfEvents is.0 (many_name m)
no_lsas ws h (command.Lsas router) is = h router is.1
no_lsas ws h c is = let e = is.0 in cc

pub no_loss : (ws : List Text) → ((found : ℕ × ℕ × Option Addr) → IsLossWords ws found.0 found.1 found.2 → ⊥) → IsNone names.Loss ws
no_loss ws h (command.Event e) is = subst IsOfEvents is.0 (event_name e)
no_loss ws h (command.Many m) is = subst IsOfEvents is.0 (many_name m)
no_loss ws h (command.Loss percent number network) is = h (percent, number, network) is.1
no_loss ws h c is = let e = is.0 in cc

-- ---- shapes

-- no word alone, and not two numbers
pub not_rounds : (ws : List Text) → ((a : Text) → ws ≡ a ∷ [] → ⊥) → ((found : ℕ × ℕ) → AreNumbers ws found.0 found.1 → ⊥) → (count : ℕ) (most : Option ℕ) → AreRoundWords ws count most → ⊥
not_rounds (a ∷ []) one two count None h = one a refl
not_rounds ws one two count None h = h
not_rounds ws one two count (Some most) h = two (count, most) h

-- no word alone, and not two words
pub not_datagrams : (ws : List Text) → ((a : Text) → ws ≡ a ∷ [] → ⊥) → ((a b : Text) → ws ≡ a ∷ b ∷ [] → ⊥) → (router : RouterId) (most : Option ℕ)
    → AreDatagramWords ws router most → ⊥
not_datagrams (a ∷ []) one two router None h = one a refl
not_datagrams ws one two router None h = h
not_datagrams (a ∷ b ∷ []) one two router (Some most) h = two a b refl
not_datagrams ws one two router (Some most) h = h

-- not three words, and no Router ID with a link
pub not_why : (ws : List Text) → ((found : RouterId × ℕ) → IsRouterAndLink ws found.0 found.1 → ⊥) → ((a b c : Text) → ws ≡ a ∷ b ∷ c ∷ [] → ⊥)
    → (router : RouterId) (link : ℕ) (neighbour : Option RouterId) → IsWhy ws router link neighbour → ⊥
not_why ws two three router link None h = two (router, link) h
not_why (a ∷ b ∷ c ∷ []) two three router link (Some neighbour) h = three a b c refl
not_why ws two three router link (Some neighbour) h = h

-- ---- names of words

-- a name is known by its length and its first two letters
key : Text → ℕ
key text = 65536 * get_or text 1 0 + (256 * length text + get_or text 0 0)

by_key : ℕ → Name
by_key n =
    if n == 7603571 then names.Start else
    if n == 7603315 then names.Stop else
    if n == 6882420 then names.Tick else
    if n == 7340661 then names.Up else
    if n == 7275620 then names.Down else
    if n == 6621028 then names.Deliver else
    if n == 7275890 then names.Round else
    if n == 6358370 then names.Batch else
    if n == 6358642 then names.Random else
    if n == 7668579 then names.Cut else
    if n == 6620269 then names.Mend else
    if n == 6620787 then names.Settle else
    if n == 6358380 then names.Label else
    if n == 6621806 then (names.Show view.Neighbours) else
    if n == 6883180 then (names.Show view.Listing) else
    if n == 6358388 then (names.Show view.Table) else
    if n == 6358135 then names.Walk else
    if n == 6357875 then names.Say else
    if n == 6816631 then names.Why else
    if n == 6359396 then names.Datagrams else
    if n == 7472484 then names.Drops else
    if n == 7537772 then names.Lsas else
    if n == 7275628 then names.Loss else
    if n == 7865957 then names.Expect else
    if n == 6621550 then (names.Show view.Neighbours) else
    (names.Show view.Floor)

-- the name that a word is is found by the word
found_by_key : (word : Text) (name : Name) → IsWordOf word name → by_key (key word) ≡ name
unfolding key by_key
found_by_key word names.Start is = ap (λ text. by_key (key text)) is
found_by_key word names.Stop is = ap (λ text. by_key (key text)) is
found_by_key word names.Tick is = ap (λ text. by_key (key text)) is
found_by_key word names.Up is = ap (λ text. by_key (key text)) is
found_by_key word names.Down is = ap (λ text. by_key (key text)) is
found_by_key word names.Deliver is = ap (λ text. by_key (key text)) is
found_by_key word names.Cut is = ap (λ text. by_key (key text)) is
found_by_key word names.Mend is = ap (λ text. by_key (key text)) is
found_by_key word names.Settle is = ap (λ text. by_key (key text)) is
found_by_key word names.Label is = ap (λ text. by_key (key text)) is
found_by_key word names.Round is = ap (λ text. by_key (key text)) is
found_by_key word names.Batch is = ap (λ text. by_key (key text)) is
found_by_key word names.Random is = ap (λ text. by_key (key text)) is
found_by_key word (names.Show view.Listing) is = ap (λ text. by_key (key text)) is
found_by_key word (names.Show view.Table) is = ap (λ text. by_key (key text)) is
found_by_key word names.Walk is = ap (λ text. by_key (key text)) is
found_by_key word (names.Show view.Floor) is = ap (λ text. by_key (key text)) is
found_by_key word names.Say is = ap (λ text. by_key (key text)) is
found_by_key word names.Why is = ap (λ text. by_key (key text)) is
found_by_key word names.Datagrams is = ap (λ text. by_key (key text)) is
found_by_key word names.Drops is = ap (λ text. by_key (key text)) is
found_by_key word names.Lsas is = ap (λ text. by_key (key text)) is
found_by_key word names.Loss is = ap (λ text. by_key (key text)) is
found_by_key word names.Expect is = ap (λ text. by_key (key text)) is
found_by_key word (names.Show view.Neighbours) is = elim is [ inl british ↦ ap (λ text. by_key (key text)) british | inr american ↦ ap (λ text. by_key (key text)) american ]

-- each name has words of its own
pub word_is_one : (word : Text) (a b : Name) → IsWordOf word a → IsWordOf word b → a ≡ b
word_is_one word a b is other = sym (found_by_key word a is) ∙ found_by_key word b other

-- ---- lines

pub not_blank : (line word : Text) (ws : List Text) → line_words line ≡ word ∷ ws → IsBlank line → ⊥
not_blank line word ws is blank =
    let none : line_words line ≡ [] = words-blank line blank in
    let both : [] ≡ word ∷ ws = sym none ∙ is in
    cc

-- the words behind the first spell no command of its name
pub unreadable : (line word : Text) (ws : List Text) → line_words line ≡ word ∷ ws → ((c : Command) → IsWordOf word (name_of_command c) → TakesWords c ws → ⊥) → IsUnreadable line
unreadable line word ws is none = record {
  some = not_blank line word ws is;
  none = λ c spelled. let h : SpellsCommand (word ∷ ws) c = rw is at spelled in none c h.0 h.1;
}

pub unreadable_of : (line word : Text) (ws : List Text) (name : Name) → line_words line ≡ word ∷ ws → IsWordOf word name → IsNone name ws → IsUnreadable line
unreadable_of line word ws name is named none =
    unreadable line word ws is (λ c own takes. none c (word_is_one word (name_of_command c) name own named, takes))

pub spelled : (line word : Text) (ws : List Text) (name : Name) (c : Command) → line_words line ≡ word ∷ ws → IsWordOf word name → IsNamedCommand name ws c → SpellsCommand (line_words line) c
spelled line word ws name c is named of =
    let here : SpellsCommand (word ∷ ws) c = (subst (IsWordOf word) (sym of.0) named, of.1) in
    rw is here
