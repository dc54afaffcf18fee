-- The objects of a journal are JSON.
use Rattle.std.proofs.Common.{◌≡◌, ◌≢◌, ◌<◌, ◌≤◌, ◌^◌, ◌-◌, ◌/◌, ◌%◌, ◌==◌, ◌&&◌, ℕ, ℤ, zero, suc, Bool, true, false, not, cond, nat_le, List, [], ◌∷◌, ◌++◌, length, replicate, codes, decimal, flat_map, append_assoc, refl, sym, ap, ◌∙◌, subst, arith}
use Rattle.std.specs.Fmt.{digits, digits_onto, digit_glyph}
use Rattle.std.specs.Int.{w32, cast_unsigned}
use Rattle.std.specs.Char.{digit_value}
use Rattle.std.specs.Str.Parse.{AllDigits}
use Rattle.std.proofs.lemmas.Bool.{ne_eqb}
use Rattle.std.proofs.lemmas.Bool.Decides.{nat_tests}
use Rattle.std.proofs.lemmas.Fmt.{decimal_is_IsNumeral}
use Rattle.json.specs.Print.{escape, escape_byte, quoted}
use Rattle.serde_json.specs.Data.{Members, member, no_members, number, string, unsigned}
use Rattle.serde_json.specs.Written.{members_text}
use Rattle.ospf_base.specs.Text.{IsDottedNumber, number_text, prefix_text}
use Rattle.ospf_base.proofs.Dotted.{number_spells}
use Rattle.ospf_base.specs.declared.ids.LsaKey.{LsaKey}
use Rattle.ospf_base.specs.declared.ids.Kind.{Kind}
use Rattle.ospf_base.specs.declared.ids.Kind.TheVariants as kind
use Rattle.ospf_base.specs.declared.ids.RouterId.{RouterId}
use Rattle.ospf_base.specs.declared.prefix.Prefix.{Prefix}
use Rattle.ospf_graph.specs.Text.{hop_text, hops_text}
use Rattle.ospf_graph.specs.declared.hop.NextHop.{NextHop}
use Rattle.ospf_graph.specs.declared.route.Route.{Route}
use Rattle.ospf_graph.specs.declared.hop.NextHop.TheVariants.{Attached, PointToPoint, Lan}
use Rattle.ospf_neighbour.specs.declared.iface.machine.IfaceState.{IfaceState}
use Rattle.ospf_neighbour.specs.declared.iface.machine.IfaceState.TheVariants as iface
use Rattle.ospf_neighbour.specs.Text.{state_text}
use Rattle.ospf_neighbour.specs.declared.machine.NeighbourState.{NeighbourState}
use Rattle.ospf_neighbour.specs.declared.machine.NeighbourState.TheVariants as state
use Rattle.ospf_script.specs.Texts.{floor_text, hexadecimal}
use Rattle.ospf_script.specs.Views.{lsa_kind_text}
use Rattle.ospf_router.specs.AreaStep.Text.{dropped_text}
use Rattle.ospf_router.specs.declared.step.dropped.Dropped.{Dropped}
use Rattle.ospf_router.specs.declared.step.dropped.Dropped.TheVariants as dropped
use Rattle.ospf_journal.specs.Laws.{ObjectsAreJson, router_change_data}
use Rattle.ospf_journal.specs.Lines.{iface_text}
use Rattle.ospf_journal.specs.Objects.{cause_members, change_members, elected_members, iface_states_members, moment_members, number_member, own_members, path_members, prefix_member, router_member, states_members}
use Rattle.ospf_journal.specs.declared.change.DroppedAt.{DroppedAt}
use Rattle.ospf_journal.specs.declared.change.RouterChange.{RouterChange}
use Rattle.ospf_journal.specs.declared.change.RouterChange.TheVariants as change
use Rattle.ospf_journal.specs.declared.seen.SeenIface.{SeenIface}

-- a byte that JSON does not escape
pub record IsPlainByte (b : ℕ) : Type 0 where
  pub shown : 32 ≤ b
  pub no_quote : b ≢ 34
  pub no_slash : b ≢ 92

-- a text of such bytes
abbrev pub IsPlain : List ℕ → Type 0
IsPlain [] = Unit {0}
IsPlain (b ∷ bs) = IsPlainByte b × IsPlain bs

escape_plain_byte : (b : ℕ) → IsPlainByte b → escape_byte b ≡ b ∷ []
unfolding escape_byte
escape_plain_byte b p =
    let s = p.shown in
    rw (
      ne_eqb b 34 p.no_quote,
      ne_eqb b 92 p.no_slash,
      ne_eqb b 8 (λ e. omega arith),
      ne_eqb b 12 (λ e. omega arith),
      ne_eqb b 10 (λ e. omega arith),
      ne_eqb b 13 (λ e. omega arith),
      ne_eqb b 9 (λ e. omega arith),
    ) (grind (arith, nat_tests))

escape_plain : (text : List ℕ) → IsPlain text → escape text ≡ text
escape_plain [] p = refl
escape_plain (b ∷ bs) p = ap (λ (l : List ℕ). l ++ escape bs) (escape_plain_byte b p.0) ∙ ap (λ (l : List ℕ). b ∷ l) (escape_plain bs p.1)

quoted_plain : (text : List ℕ) → IsPlain text → quoted text ≡ 34 ∷ (text ++ 34 ∷ [])
quoted_plain text p = ap (λ (l : List ℕ). 34 ∷ (l ++ 34 ∷ [])) (escape_plain text p)

plain-append : (xs ys : List ℕ) → IsPlain xs → IsPlain ys → IsPlain (xs ++ ys)
plain-append [] ys p q = q
plain-append (x ∷ xs) ys p q = (p.0, plain-append xs ys p.1 q)

plain-flat : {A : Type 0} (text_of : A → List ℕ) (xs : List A) → ((x : A) → IsPlain (text_of x)) → IsPlain (flat_map text_of xs)
plain-flat text_of [] p = tt
plain-flat text_of (x ∷ xs) p = plain-append (text_of x) (flat_map text_of xs) (p x) (plain-flat text_of xs p)

-- ---- texts that are known

abbrev is_plain_byte : ℕ → Bool
is_plain_byte b = nat_le 32 b && (not (b == 34) && not (b == 92))

abbrev is_plain : List ℕ → Bool
is_plain [] = true
is_plain (b ∷ bs) = is_plain_byte b && is_plain bs

plain_byte_of : (b : ℕ) → is_plain_byte b ≡ true → IsPlainByte b
plain_byte_of b e = record { shown = grind (arith, nat_tests); no_quote = λ q. grind (arith, nat_tests); no_slash = λ q. grind (arith, nat_tests) }

and-both : (a b : Bool) → (a && b) ≡ true → (a ≡ true) × (b ≡ true)
and-both true b e = (refl, e)
and-both false b e = (let no' : false ≡ true = e in cc)

plain_of : (text : List ℕ) → is_plain text ≡ true → IsPlain text
plain_of [] e = tt
plain_of (b ∷ bs) e = let both = and-both (is_plain_byte b) (is_plain bs) e in (plain_byte_of b both.0, plain_of bs both.1)

-- ---- numbers

digit_plain : (c : ℕ) → digit_value c < 36 → IsPlainByte c
digit_plain c h = record {
  shown = grind (arith, nat_tests);
  no_quote = λ e. (let here : digit_value 34 < 36 = subst (λ (x : ℕ). digit_value x < 36) e h in omega (arith, here));
  no_slash = λ e. (let here : digit_value 92 < 36 = subst (λ (x : ℕ). digit_value x < 36) e h in omega (arith, here));
}

digits_plain : (radix : ℕ) (ds : List ℕ) → radix ≤ 36 → AllDigits radix ds → IsPlain ds
digits_plain radix [] small h = tt
digits_plain radix (d ∷ ds) small h = (digit_plain d (omega (arith, h.0)), digits_plain radix ds small h.1)

decimal_plain : (n : ℕ) → n < 2 ^ 64 → IsPlain (decimal n)
decimal_plain n h = digits_plain 10 (decimal n) (omega arith) (decimal_is_IsNumeral n h).0.1

dotted_plain : (text : List ℕ) (n : ℕ) → IsDottedNumber text n → IsPlain text
dotted_plain text n h =
    let f = h.fit in
    let dot = plain_of (codes ".") refl in
    let one = decimal_plain h.a (omega (arith, f.0)) in
    let two = decimal_plain h.b (omega (arith, f.1)) in
    let three = decimal_plain h.c (omega (arith, f.2)) in
    let four = decimal_plain h.d (omega (arith, f.3)) in
    rw h.spelled
    (plain-append _ _ (plain-append _ _ (plain-append _ _ (plain-append _ _ (plain-append _ _ (plain-append _ _ one dot) two) dot) three) dot) four)

number_plain : (n : ℕ) → IsPlain (number_text n)
number_plain n = dotted_plain (number_text n) n (number_spells n)

prefix_plain : (p : Prefix) → IsPlain (prefix_text p)
prefix_plain p =
    let short = p.short in
    plain-append _ _ (plain-append _ _ (number_plain p.address.0) (plain_of (codes "/") refl)) (decimal_plain p.length (omega arith))

zeros_plain : (k : ℕ) (ds : List ℕ) → IsPlain ds → IsPlain (replicate k 48 ++ ds)
zeros_plain zero ds h = h
zeros_plain (suc k) ds h = (plain_byte_of 48 refl, zeros_plain k ds h)

-- ---- names

state_plain : (s : NeighbourState) → IsPlain (state_text s)
state_plain state.Down = plain_of (codes "Down") refl
state_plain state.Init = plain_of (codes "Init") refl
state_plain state.TwoWay = plain_of (codes "2-Way") refl
state_plain state.ExStart = plain_of (codes "ExStart") refl
state_plain state.Exchange = plain_of (codes "Exchange") refl
state_plain state.Loading = plain_of (codes "Loading") refl
state_plain state.Full = plain_of (codes "Full") refl

iface_plain : (s : IfaceState) → IsPlain (iface_text s)
iface_plain iface.Down = plain_of (codes "Down") refl
iface_plain iface.Waiting = plain_of (codes "Waiting") refl
iface_plain iface.PointToPoint = plain_of (codes "Point-to-point") refl
iface_plain iface.DrOther = plain_of (codes "DROther") refl
iface_plain iface.Backup = plain_of (codes "Backup") refl
iface_plain iface.Dr = plain_of (codes "DR") refl

kind_plain : (k : Kind) → IsPlain (lsa_kind_text k)
kind_plain kind.Router = plain_of (codes "router") refl
kind_plain kind.Network = plain_of (codes "network") refl

cause_plain : (d : Dropped) → IsPlain (dropped_text d)
cause_plain dropped.Packet = plain_of (codes "R1 Packet") refl
cause_plain dropped.Area = plain_of (codes "R2 Area") refl
cause_plain dropped.OwnPacket = plain_of (codes "R3 OwnPacket") refl
cause_plain dropped.Destination = plain_of (codes "R4 Destination") refl
cause_plain dropped.Subnet = plain_of (codes "R5 Subnet") refl
cause_plain dropped.HelloMismatch = plain_of (codes "R6 HelloMismatch") refl
cause_plain dropped.NoNeighbour = plain_of (codes "R7 NoNeighbour") refl
cause_plain dropped.WrongRouter = plain_of (codes "R8 WrongRouter") refl
cause_plain dropped.State = plain_of (codes "R9 State") refl

hop_plain : (hop : NextHop) → IsPlain (hop_text hop)
hop_plain Attached = plain_of (codes "attached") refl
hop_plain (PointToPoint local router) = plain-append _ _ (plain-append _ _ (number_plain local.0) (plain_of (codes ">") refl)) (number_plain router.0)
hop_plain (Lan local router address) =
    plain-append _ _ (plain-append _ _ (plain-append _ _ (plain-append _ _ (number_plain local.0) (plain_of (codes ">") refl)) (number_plain router.0)) (plain_of (codes "@") refl)) (number_plain address.0)

hops_plain : (hops : List NextHop) → IsPlain (hops_text hops)
hops_plain [] = tt
hops_plain (first ∷ rest) = plain-append _ _ (hop_plain first) (plain-flat (λ hop. codes "," ++ hop_text hop) rest (λ hop. (plain_byte_of 44 refl, hop_plain hop)))

-- ---- floors

glyph_plain : (d : ℕ) → d < 16 → IsPlainByte (digit_glyph false d)
glyph_plain d h = record { shown = grind (arith, nat_tests); no_quote = λ e. grind (arith, nat_tests); no_slash = λ e. grind (arith, nat_tests) }

onto_plain : (k n : ℕ) (acc : List ℕ) → IsPlain acc → IsPlain (digits_onto k 16 false n acc)
onto_plain zero n acc p = p
onto_plain (suc k) n acc p =
    let glyph = glyph_plain (n % 16) (omega arith) in
    elim (n / 16 == 0) as (λ t. IsPlain (cond t (digit_glyph false (n % 16) ∷ acc) (digits_onto k 16 false (n / 16) (digit_glyph false (n % 16) ∷ acc)))) [
      | true ↦ (glyph, p)
      | false ↦ onto_plain k (n / 16) (digit_glyph false (n % 16) ∷ acc) (glyph, p)
    ]

hexadecimal_plain : (width n : ℕ) → IsPlain (hexadecimal width n)
unfolding hexadecimal digits
hexadecimal_plain width n = zeros_plain (width - length (digits 16 false n)) (digits 16 false n) (onto_plain 64 n [] tt)

-- ---- members

-- a quoted text, and what stands behind it
said_text : (text rest : List ℕ) → IsPlain text → quoted text ++ rest ≡ 34 ∷ (text ++ 34 ∷ rest)
said_text text rest p = ap (λ (l : List ℕ). l ++ rest) (quoted_plain text p) ∙ ap (λ (l : List ℕ). 34 ∷ l) (append_assoc text (34 ∷ []) rest)

text_said : (name text : List ℕ) (ms : Members) → IsPlain name → IsPlain text
    → members_text true (member name (string text) ms) ≡ 44 ∷ 34 ∷ (name ++ 34 ∷ 58 ∷ 34 ∷ (text ++ 34 ∷ members_text true ms))
text_said name text ms pn pt =
    ap (λ (l : List ℕ). 44 ∷ (quoted name ++ 58 ∷ l)) (said_text text (members_text true ms) pt)
    ∙ ap (λ (l : List ℕ). 44 ∷ l) (said_text name (58 ∷ 34 ∷ (text ++ 34 ∷ members_text true ms)) pn)

number_said : (name : List ℕ) (n : ℕ) (ms : Members) → IsPlain name
    → members_text true (member name (number (unsigned n)) ms) ≡ 44 ∷ 34 ∷ (name ++ 34 ∷ 58 ∷ (decimal n ++ members_text true ms))
number_said name n ms pn = ap (λ (l : List ℕ). 44 ∷ l) (said_text name (58 ∷ (decimal n ++ members_text true ms)) pn)

-- two texts between others
five : (a b c d e x : List ℕ) → a ++ b ++ c ++ d ++ e ++ x ≡ a ++ (b ++ (c ++ (d ++ (e ++ x))))
five a b c d e x =
    append_assoc (a ++ b ++ c ++ d) e x ∙ append_assoc (a ++ b ++ c) d (e ++ x) ∙ append_assoc (a ++ b) c (d ++ (e ++ x)) ∙ append_assoc a b (c ++ (d ++ (e ++ x)))

three : (a b c x : List ℕ) → a ++ b ++ c ++ x ≡ a ++ (b ++ (c ++ x))
three a b c x = append_assoc (a ++ b) c x ∙ append_assoc a b (c ++ x)

one_said : (name text : List ℕ) (ms : Members) → IsPlain name → IsPlain text
    → 44 ∷ 34 ∷ (name ++ 34 ∷ 58 ∷ 34 ∷ []) ++ text ++ (34 ∷ []) ++ members_text true ms ≡ members_text true (member name (string text) ms)
one_said name text ms pn pt =
    three (44 ∷ 34 ∷ (name ++ 34 ∷ 58 ∷ 34 ∷ [])) text (34 ∷ []) (members_text true ms)
    ∙ ap (λ (l : List ℕ). 44 ∷ 34 ∷ l) (append_assoc name (34 ∷ 58 ∷ 34 ∷ []) (text ++ 34 ∷ members_text true ms))
    ∙ sym (text_said name text ms pn pt)

two_said : (name text next last : List ℕ) (ms : Members) → IsPlain name → IsPlain text → IsPlain next → IsPlain last
    → 44 ∷ 34 ∷ (name ++ 34 ∷ 58 ∷ 34 ∷ []) ++ text ++ 34 ∷ 44 ∷ 34 ∷ (next ++ 34 ∷ 58 ∷ 34 ∷ []) ++ last ++ (34 ∷ []) ++ members_text true ms
    ≡ members_text true (member name (string text) (member next (string last) ms))
two_said name text next last ms pn pt px pl =
    five (44 ∷ 34 ∷ (name ++ 34 ∷ 58 ∷ 34 ∷ [])) text (34 ∷ 44 ∷ 34 ∷ (next ++ 34 ∷ 58 ∷ 34 ∷ [])) last (34 ∷ []) (members_text true ms)
    ∙ ap (λ (l : List ℕ). 44 ∷ 34 ∷ l) (append_assoc name (34 ∷ 58 ∷ 34 ∷ []) (text ++ 34 ∷ 44 ∷ 34 ∷ (next ++ 34 ∷ 58 ∷ 34 ∷ [] ++ (last ++ 34 ∷ members_text true ms))))
    ∙ ap (λ (l : List ℕ). 44 ∷ 34 ∷ (name ++ 34 ∷ 58 ∷ 34 ∷ (text ++ 34 ∷ 44 ∷ 34 ∷ l))) (append_assoc next (34 ∷ 58 ∷ 34 ∷ []) (last ++ 34 ∷ members_text true ms))
    ∙ sym (text_said name text (member next (string last) ms) pn pt
    ∙ ap (λ (l : List ℕ). 44 ∷ 34 ∷ (name ++ 34 ∷ 58 ∷ 34 ∷ (text ++ 34 ∷ l))) (text_said next last ms px pl))

cause_said : (d : DroppedAt) (ms : Members) → cause_members d ++ members_text true ms
    ≡ members_text true (member (codes "cause") (string (dropped_text d.cause)) (member (codes "source") (string (number_text d.source.0)) ms))
unfolding cause_members
cause_said d ms =
    two_said (codes "cause") (dropped_text d.cause) (codes "source") (number_text d.source.0) ms (plain_of (codes "cause") refl) (cause_plain d.cause) (plain_of (codes "source") refl) (number_plain d.source.0)

router_said : (q : RouterId) (ms : Members) → router_member q ++ members_text true ms ≡ members_text true (member (codes "neighbour") (string (number_text q.0)) ms)
unfolding router_member
router_said q ms = one_said (codes "neighbour") (number_text q.0) ms (plain_of (codes "neighbour") refl) (number_plain q.0)

states_said : (before now : NeighbourState) (ms : Members) → states_members before now ++ members_text true ms
    ≡ members_text true (member (codes "before") (string (state_text before)) (member (codes "now") (string (state_text now)) ms))
unfolding states_members
states_said before now ms =
    two_said (codes "before") (state_text before) (codes "now") (state_text now) ms (plain_of (codes "before") refl) (state_plain before) (plain_of (codes "now") refl) (state_plain now)

iface_states_said : (before now : IfaceState) (ms : Members) → iface_states_members before now ++ members_text true ms
    ≡ members_text true (member (codes "before") (string (iface_text before)) (member (codes "now") (string (iface_text now)) ms))
unfolding iface_states_members
iface_states_said before now ms =
    two_said (codes "before") (iface_text before) (codes "now") (iface_text now) ms (plain_of (codes "before") refl) (iface_plain before) (plain_of (codes "now") refl) (iface_plain now)

elected_said : (i : SeenIface) (ms : Members) → elected_members i ++ members_text true ms
    ≡ members_text true (member (codes "dr") (string (number_text i.dr.0)) (member (codes "backup") (string (number_text i.backup.0)) ms))
unfolding elected_members
elected_said i ms =
    two_said (codes "dr") (number_text i.dr.0) (codes "backup") (number_text i.backup.0) ms (plain_of (codes "dr") refl) (number_plain i.dr.0) (plain_of (codes "backup") refl) (number_plain i.backup.0)

own_said : (key : LsaKey) (ms : Members) → own_members key ++ members_text true ms
    ≡ members_text true (member (codes "lsa") (string (lsa_kind_text key.kind)) (member (codes "id") (string (number_text key.id)) ms))
unfolding own_members
own_said key ms =
    two_said (codes "lsa") (lsa_kind_text key.kind) (codes "id") (number_text key.id) ms (plain_of (codes "lsa") refl) (kind_plain key.kind) (plain_of (codes "id") refl) (number_plain key.id)

issue_said : (n : ℤ) (ms : Members) → number_member n ++ members_text true ms ≡ members_text true (member (codes "number") (string (floor_text n)) ms)
unfolding number_member
issue_said n ms = one_said (codes "number") (floor_text n) ms (plain_of (codes "number") refl) (hexadecimal_plain 8 (cast_unsigned w32 n))

prefix_said : (p : Prefix) (ms : Members) → prefix_member p ++ members_text true ms ≡ members_text true (member (codes "prefix") (string (prefix_text p)) ms)
unfolding prefix_member
prefix_said p ms = one_said (codes "prefix") (prefix_text p) ms (plain_of (codes "prefix") refl) (prefix_plain p)

path_said : (route : Route) (ms : Members) → path_members route ++ members_text true ms
    ≡ members_text true (member (codes "cost") (number (unsigned route.cost)) (member (codes "hops") (string (hops_text route.hops)) ms))
unfolding path_members
path_said route ms =
    five (codes ",\"cost\":") (decimal route.cost) (codes ",\"hops\":\"") (hops_text route.hops) (codes "\"") (members_text true ms)
    ∙ sym (number_said (codes "cost") route.cost (member (codes "hops") (string (hops_text route.hops)) ms) (plain_of (codes "cost") refl)
    ∙ ap (λ (l : List ℕ). codes ",\"cost\":" ++ (decimal route.cost ++ l)) (text_said (codes "hops") (hops_text route.hops) ms (plain_of (codes "hops") refl) (hops_plain route.hops)))

-- ---- changes

change_said : (c : RouterChange) → 44 ∷ (change_members c ++ codes "}") ≡ members_text true (router_change_data c)
unfolding escape_byte
change_said change.Started = refl
change_said change.Stopped = refl
change_said (change.Dropped d) =
    ap (λ (l : List ℕ). 44 ∷ l) (three (codes "\"event\":\"dropped\",\"link\":") (decimal d.link) (cause_members d) (codes "}"))
    ∙ ap (λ (l : List ℕ). codes ",\"event\":\"dropped\",\"link\":" ++ (decimal d.link ++ l)) (cause_said d no_members)
change_said (change.Neighbour link q before now) =
    let e = codes "\"event\":\"neighbour\",\"link\":" in
    ap (λ (l : List ℕ). 44 ∷ l) (append_assoc (e ++ decimal link ++ router_member q) (states_members before now) (codes "}") ∙ three e (decimal link) (router_member q) (states_members before now ++ codes "}"))
    ∙ ap (λ (l : List ℕ). 44 ∷ e ++ (decimal link ++ (router_member q ++ l))) (states_said before now no_members)
    ∙ ap (λ (l : List ℕ). 44 ∷ e ++ (decimal link ++ l)) (router_said q (member (codes "before") (string (state_text before)) (member (codes "now") (string (state_text now)) no_members)))
change_said (change.Interface link before now) =
    let e = codes "\"event\":\"interface\",\"link\":" in
    ap (λ (l : List ℕ). 44 ∷ l)
    (append_assoc (e ++ decimal link ++ iface_states_members before now.state) (elected_members now) (codes "}")
    ∙ three e (decimal link) (iface_states_members before now.state) (elected_members now ++ codes "}"))
    ∙ ap (λ (l : List ℕ). 44 ∷ e ++ (decimal link ++ (iface_states_members before now.state ++ l))) (elected_said now no_members)
    ∙ ap (λ (l : List ℕ). 44 ∷ e ++ (decimal link ++ l)) (iface_states_said before now.state (member (codes "dr") (string (number_text now.dr.0)) (member (codes "backup") (string (number_text now.backup.0)) no_members)))
change_said (change.Issued key n) =
    let e = codes "\"event\":\"issued\"" in
    ap (λ (l : List ℕ). 44 ∷ l) (three e (own_members key) (number_member n) (codes "}"))
    ∙ ap (λ (l : List ℕ). 44 ∷ e ++ (own_members key ++ l)) (issue_said n no_members)
    ∙ ap (λ (l : List ℕ). 44 ∷ e ++ l) (own_said key (member (codes "number") (string (floor_text n)) no_members))
change_said (change.Flushed key n) =
    let e = codes "\"event\":\"flushed\"" in
    ap (λ (l : List ℕ). 44 ∷ l) (three e (own_members key) (number_member n) (codes "}"))
    ∙ ap (λ (l : List ℕ). 44 ∷ e ++ (own_members key ++ l)) (issue_said n no_members)
    ∙ ap (λ (l : List ℕ). 44 ∷ e ++ l) (own_said key (member (codes "number") (string (floor_text n)) no_members))
change_said (change.Removed key) =
    let e = codes "\"event\":\"removed\"" in
    ap (λ (l : List ℕ). 44 ∷ l) (append_assoc e (own_members key) (codes "}")) ∙ ap (λ (l : List ℕ). 44 ∷ e ++ l) (own_said key no_members)
change_said (change.Route route) =
    let e = codes "\"event\":\"route\"" in
    ap (λ (l : List ℕ). 44 ∷ l) (three e (prefix_member route.prefix) (path_members route) (codes "}"))
    ∙ ap (λ (l : List ℕ). 44 ∷ e ++ (prefix_member route.prefix ++ l)) (path_said route no_members)
    ∙ ap (λ (l : List ℕ). 44 ∷ e ++ l) (prefix_said route.prefix (member (codes "cost") (number (unsigned route.cost)) (member (codes "hops") (string (hops_text route.hops)) no_members)))
change_said (change.NoRoute prefix) =
    let e = codes "\"event\":\"no route\"" in
    ap (λ (l : List ℕ). 44 ∷ l) (append_assoc e (prefix_member prefix) (codes "}")) ∙ ap (λ (l : List ℕ). 44 ∷ e ++ l) (prefix_said prefix no_members)

-- ---- objects

pub objects_are_json : ObjectsAreJson
unfolding moment_members escape_byte
objects_are_json tick q c =
    append_assoc (moment_members tick q) (change_members c) (codes "}")
    ∙ five (codes "{\"tick\":") (decimal tick) (codes ",\"router\":\"") (number_text q.0) (codes "\",") (change_members c ++ codes "}")
    ∙ ap (λ (l : List ℕ). codes "{\"tick\":" ++ (decimal tick ++ (codes ",\"router\":\"" ++ (number_text q.0 ++ 34 ∷ l)))) (change_said c)
    ∙ sym (ap (λ (l : List ℕ). codes "{\"tick\":" ++ (decimal tick ++ l)) (text_said (codes "router") (number_text q.0) (router_change_data c) (plain_of (codes "router") refl) (number_plain q.0)))
