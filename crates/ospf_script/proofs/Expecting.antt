-- Words expect one thing at most, and some expect nothing.
use Rattle.std.specs.Str.{IsUtf8}
use Rattle.std.specs.List.{AllZip}
use Rattle.std.proofs.Common.{rules, arith, ◌≡◌, ◌==◌, ◌⊎◌, if◌then◌else◌, inl, inr, ℕ, ◌+◌, ◌*◌, Option, None, Some, List, [], ◌∷◌, length, get_or, codes, refl, subst, sym, ap, ◌∙◌}
use Rattle.ospf_base.specs.declared.ids.Addr.{Addr}
use Rattle.ospf_base.specs.declared.prefix.Prefix.{Prefix}
use Rattle.ospf_base.specs.declared.ids.RouterId.{RouterId}
use Rattle.ospf_script.specs.Commands.{BeginsWalk, IsRouterAlone}
use Rattle.ospf_neighbour.specs.Text.{state_text}
use Rattle.ospf_neighbour.specs.declared.machine.NeighbourState.{NeighbourState}
use Rattle.ospf_neighbour.specs.declared.machine.NeighbourState.TheVariants as state
use Rattle.ospf_script.specs.Expected.{AreElected, BeginsLink, BeginsRoute, IsExpected, IsLongRoute, IsNeighbour, IsOfRoute, IsStateWord, SpellsArrival}
use Rattle.ospf_script.specs.Laws.{IsOneExpected}
use Rattle.ospf_script.specs.Values.{AreManySpelled, AreSomeSpelled, IsDecimal, IsHopWord, IsPrefix, IsRouterWord}
use Rattle.ospf_script.specs.Words.{Text}
use Rattle.ospf_script.specs.declared.expected.Expected.{Expected}
use Rattle.ospf_script.specs.declared.expected.Expected.TheVariants.{Router, Walk, Agree, Headline, Settled}
use Rattle.ospf_script.specs.declared.expected.Wanted.TheVariants.{Neighbour, NoNeighbour, Dr, Route, NoRoute}
use Rattle.ospf_script.proofs.Hopping.{hop_one}
use Rattle.ospf_script.proofs.OneValue.{address_one, decimal_one, router_one}
use Rattle.ospf_script.proofs.Prefixes.{prefix_spelled_one}

-- ---- the first word

-- the first word of what is expected
abbrev IsFirst : Expected → Text → Type 0
IsFirst (Router router (Neighbour other state)) w = (w ≡ codes "full") ⊎ IsNeighbour w
IsFirst (Router router (NoNeighbour link)) w = w ≡ codes "no"
IsFirst (Router router (Dr link dr backup)) w = w ≡ codes "dr"
IsFirst (Router router (Route prefix cost hops)) w = w ≡ codes "route"
IsFirst (Router router (NoRoute prefix)) w = w ≡ codes "no"
IsFirst (Walk from address cost) w = w ≡ codes "walk"
IsFirst Agree w = w ≡ codes "agree"
IsFirst (Headline router) w = w ≡ codes "headline"
IsFirst Settled w = w ≡ codes "settled"

begins : (e : Expected) (w : Text) (ws : List Text) → IsExpected (w ∷ ws) e → IsFirst e w
begins (Router router (Neighbour other state)) w (a ∷ b ∷ []) h = inl h.0
begins (Router router (Neighbour other state)) w (a ∷ b ∷ c ∷ []) h = inr h.0
begins (Router router (NoNeighbour link)) w (a ∷ b ∷ c ∷ []) h = h.0
begins (Router router (Dr link dr backup)) w (a ∷ b ∷ ws) h = h.0
begins (Router router (Route prefix cost hops)) w ws h = h.0
begins (Router router (NoRoute prefix)) w (a ∷ b ∷ c ∷ []) h = h.0
begins (Walk from address cost) w (a ∷ b ∷ ws) h = h.0
begins Agree w [] h = h
begins (Headline None) w [] h = h
begins (Headline (Some router)) w (a ∷ []) h = h.0
begins Settled w [] h = h
begins e w ws h = absurd h

-- first words are told apart by their lengths and first letters, but for `full` and `neighbour`
key : Text → ℕ
key word = 256 * length word + get_or word 0 0

kind : Text → ℕ
kind word = if key word == 2414 then 1126 else if key word == 2158 then 1126 else key word

kind_of : Expected → ℕ
kind_of (Router router (Neighbour other state)) = 1126
kind_of (Router router (NoNeighbour link)) = 622
kind_of (Router router (Dr link dr backup)) = 612
kind_of (Router router (Route prefix cost hops)) = 1394
kind_of (Router router (NoRoute prefix)) = 622
kind_of (Walk from address cost) = 1143
kind_of Agree = 1377
kind_of (Headline router) = 2152
kind_of Settled = 1907

neighbour_kind : (w : Text) → IsNeighbour w → kind w ≡ 1126
unfolding key kind
neighbour_kind w is = elim is [ inl british ↦ ap kind british | inr american ↦ ap kind american ]

kind_first : (e : Expected) (w : Text) → IsFirst e w → kind w ≡ kind_of e
unfolding key kind kind_of
kind_first (Router router (Neighbour other state)) w is = elim is [ inl full ↦ ap kind full | inr other ↦ neighbour_kind w other ]
kind_first (Router router (NoNeighbour link)) w is = ap kind is
kind_first (Router router (Dr link dr backup)) w is = ap kind is
kind_first (Router router (Route prefix cost hops)) w is = ap kind is
kind_first (Router router (NoRoute prefix)) w is = ap kind is
kind_first (Walk from address cost) w is = ap kind is
kind_first Agree w is = ap kind is
kind_first (Headline router) w is = ap kind is
kind_first Settled w is = ap kind is

kind_is : (e : Expected) (w : Text) (ws : List Text) → IsExpected (w ∷ ws) e → kind w ≡ kind_of e
kind_is e w ws h = kind_first e w (begins e w ws h)

pub neighbour_is_not_route : (word : Text) → IsNeighbour word → word ≡ codes "route" → ⊥
unfolding key kind
neighbour_is_not_route word is other =
    let route : kind word ≡ 1394 = ap kind other in
    let both : 1126 ≡ 1394 = sym (neighbour_kind word is) ∙ route in
    omega (arith, both)

-- two beginnings of a route are one
pub route_begins_one : (ws : List Text) (r s : RouterId) (p q : Prefix) (m n : ℕ) (us vs : List Text) → BeginsRoute ws r p m us → BeginsRoute ws s q n vs
    → (r ≡ s) × (p ≡ q) × (m ≡ n) × (us ≡ vs)
route_begins_one (a ∷ b ∷ c ∷ ws) r s p q m n us vs h k =
    (router_one a r s h.0 k.0, prefix_spelled_one b p q h.1 k.1, decimal_one 64 c m n h.2 k.2, sym h.3 ∙ k.3)
route_begins_one _ r s p q m n us vs h k = absurd h

-- with next hops behind it
pub long_route : (ws : List Text) (r : RouterId) (p : Prefix) (m : ℕ) (rest : List Text) → BeginsRoute ws r p m rest → AreManySpelled IsHopWord rest → IsLongRoute (codes "route" ∷ ws)
long_route ws r p m rest begins many = (refl, r, p, m, rest, begins, many)

-- the second word of a route is its prefix
pub route_has_prefix : (ws us vs rest : List Text) (a b c : Text) → ws ≡ a ∷ us → us ≡ b ∷ vs → vs ≡ c ∷ rest → (r : RouterId) (p : Prefix) (m : ℕ) (behind : List Text)
    → BeginsRoute ws r p m behind → IsPrefix b p
route_has_prefix ws us vs rest a b c one two three r p m behind h = (rw (one, two, three) at h).1

-- behind `no`
pub only_absent : (w a b : Text) → ((router : RouterId) (prefix : Prefix) → w ≡ codes "route" → IsRouterWord a router → IsPrefix b prefix → ⊥)
    → ((router : RouterId) (link : ℕ) → IsNeighbour w → IsRouterWord a router → IsDecimal 64 b link → ⊥) → (e : Expected) → IsExpected (codes "no" ∷ w ∷ a ∷ b ∷ []) e → ⊥
unfolding key kind kind_of
only_absent w a b route neighbour (Router router (NoRoute prefix)) h = route router prefix h.1 h.2 h.3
only_absent w a b route neighbour (Router router (NoNeighbour link)) h = neighbour router link h.1 h.2 h.3
only_absent w a b route neighbour e h = let is : 622 ≡ kind_of e = kind_is e (codes "no") (w ∷ a ∷ b ∷ []) h in omega (arith, is)

walked : (ws : List Text) (from : RouterId) (address : Addr) (cost : Option ℕ)
    → ((from : RouterId) (address : Addr) (rest : List Text) (cost : Option ℕ) → BeginsWalk ws from address rest → SpellsArrival rest cost → ⊥)
    → IsExpected (codes "walk" ∷ ws) (Walk from address cost) → ⊥
walked (a ∷ b ∷ ws) from address cost none h = none from address ws cost (h.1, h.2, refl) h.3
walked ws from address cost none h = h

-- behind `walk`
pub only_walk : (ws : List Text) → ((from : RouterId) (address : Addr) (rest : List Text) (cost : Option ℕ) → BeginsWalk ws from address rest → SpellsArrival rest cost → ⊥)
    → (e : Expected) → IsExpected (codes "walk" ∷ ws) e → ⊥
unfolding key kind kind_of
only_walk ws none (Walk from address cost) h = walked ws from address cost none h
only_walk ws none (Router router (Neighbour other state)) h = let is : 1143 ≡ 1126 = kind_is (Router router (Neighbour other state)) (codes "walk") ws h in omega (arith, is)
only_walk ws none e h = let is : 1143 ≡ kind_of e = kind_is e (codes "walk") ws h in omega (arith, is)

-- two beginnings of a walk leave the same words
pub rest_one : (ws : List Text) (r s : RouterId) (a b : Addr) (us vs : List Text) → BeginsWalk ws r a us → BeginsWalk ws s b vs → us ≡ vs
rest_one (x ∷ y ∷ ws) r s a b us vs h k = sym h.2 ∙ k.2
rest_one _ r s a b us vs h k = absurd h

behind_dr : (ws : List Text) (router : RouterId) (link : ℕ) (dr : Addr) (backup : Option Addr)
    → ((router : RouterId) (link : ℕ) (rest : List Text) (dr : Addr) (backup : Option Addr) → BeginsLink ws router link rest → AreElected rest dr backup → ⊥)
    → IsExpected (codes "dr" ∷ ws) (Router router (Dr link dr backup)) → ⊥
behind_dr (a ∷ b ∷ ws) router link dr backup none h = none router link ws dr backup (h.1, h.2, refl) h.3
behind_dr ws router link dr backup none h = h

-- behind `dr`
pub only_dr : (ws : List Text)
    → ((router : RouterId) (link : ℕ) (rest : List Text) (dr : Addr) (backup : Option Addr) → BeginsLink ws router link rest → AreElected rest dr backup → ⊥)
    → (e : Expected) → IsExpected (codes "dr" ∷ ws) e → ⊥
unfolding key kind kind_of
only_dr ws none (Router router (Dr link dr backup)) h = behind_dr ws router link dr backup none h
only_dr ws none e h = let is : 612 ≡ kind_of e = kind_is e (codes "dr") ws h in omega (arith, is)

-- two beginnings with a link leave the same words
pub behind_link_one : (ws : List Text) (r s : RouterId) (m n : ℕ) (us vs : List Text) → BeginsLink ws r m us → BeginsLink ws s n vs → us ≡ vs
behind_link_one (x ∷ y ∷ ws) r s m n us vs h k = sym h.2 ∙ k.2
behind_link_one _ r s m n us vs h k = absurd h

-- behind `headline`
pub only_headline : (w : Text) (ws : List Text) → ((router : RouterId) → IsRouterAlone (w ∷ ws) router → ⊥) → (e : Expected) → IsExpected (codes "headline" ∷ w ∷ ws) e → ⊥
unfolding key kind kind_of
only_headline w [] none (Headline (Some router)) h = none router h.1
only_headline w (a ∷ ws) none (Headline (Some router)) h = h
only_headline w ws none (Headline None) h = h
only_headline w ws none (Router router (Neighbour other state)) h = let is : 2152 ≡ 1126 = kind_is (Router router (Neighbour other state)) (codes "headline") (w ∷ ws) h in omega (arith, is)
only_headline w ws none e h = let is : 2152 ≡ kind_of e = kind_is e (codes "headline") (w ∷ ws) h in omega (arith, is)

-- where the first word is none of these, a route is expected
pub only_known : (w : Text) (ws : List Text) → (w ∷ ws ≡ codes "agree" ∷ [] → ⊥) → (w ∷ ws ≡ codes "settled" ∷ [] → ⊥) → (w ≡ codes "full" → ⊥) → (IsNeighbour w → ⊥)
    → (w ≡ codes "dr" → ⊥) → (w ≡ codes "no" → ⊥) → (w ≡ codes "walk" → ⊥) → (w ≡ codes "headline" → ⊥) → (e : Expected) → IsExpected (w ∷ ws) e → IsOfRoute (w ∷ ws)
only_known w [] agree settled full neighbour dr absent walk headline Agree h = absurd (agree (ap (λ x. x ∷ []) h))
only_known w [] agree settled full neighbour dr absent walk headline Settled h = absurd (settled (ap (λ x. x ∷ []) h))
only_known w (a ∷ ws) agree settled full neighbour dr absent walk headline Agree h = absurd h
only_known w (a ∷ ws) agree settled full neighbour dr absent walk headline Settled h = absurd h
only_known w ws agree settled full neighbour dr absent walk headline (Router router (Neighbour other state)) h =
    elim (begins (Router router (Neighbour other state)) w ws h) [ inl is ↦ absurd (full is) | inr is ↦ absurd (neighbour is) ]
only_known w ws agree settled full neighbour dr absent walk headline (Router router (NoNeighbour link)) h = absurd (absent (begins (Router router (NoNeighbour link)) w ws h))
only_known w ws agree settled full neighbour dr absent walk headline (Router router (Dr link elected backup)) h = absurd (dr (begins (Router router (Dr link elected backup)) w ws h))
only_known w ws agree settled full neighbour dr absent walk headline (Router router (Route prefix cost hops)) h = (ws, ap (λ x. x ∷ ws) h.0)
only_known w ws agree settled full neighbour dr absent walk headline (Router router (NoRoute prefix)) h = absurd (absent (begins (Router router (NoRoute prefix)) w ws h))
only_known w ws agree settled full neighbour dr absent walk headline (Walk from address cost) h = absurd (walk (begins (Walk from address cost) w ws h))
only_known w ws agree settled full neighbour dr absent walk headline (Headline router) h = absurd (headline (begins (Headline router) w ws h))

text_is : (w text : Text) → IsUtf8 text → (IsUtf8 w → ⊥) → w ≡ text → ⊥
text_is w text utf8 not is = not (subst IsUtf8 (sym is) utf8)

-- nor is anything where that is no text
pub only_text : (w : Text) (ws : List Text) → (w ∷ ws ≡ codes "agree" ∷ [] → ⊥) → (w ∷ ws ≡ codes "settled" ∷ [] → ⊥) → (IsUtf8 w → ⊥) → (e : Expected) → IsExpected (w ∷ ws) e
    → IsOfRoute (w ∷ ws)
only_text w ws agree settled not =
    only_known w ws agree settled (text_is w (codes "full") (search rules) not)
    (λ is. elim is [ inl british ↦ text_is w (codes "neighbour") (search rules) not british | inr american ↦ text_is w (codes "neighbor") (search rules) not american ])
    (text_is w (codes "dr") (search rules) not) (text_is w (codes "no") (search rules) not) (text_is w (codes "walk") (search rules) not)
    (text_is w (codes "headline") (search rules) not)

-- ---- states

state_by_key : ℕ → NeighbourState
state_by_key n =
    if n == 1092 then state.Down else
    if n == 1097 then state.Init else
    if n == 1330 then state.TwoWay else
    if n == 1861 then state.ExStart else
    if n == 2117 then state.Exchange else
    if n == 1868 then state.Loading else
    state.Full

-- the state is found by the length of its name and the first letter
state_found : (s : NeighbourState) → state_by_key (key (state_text s)) ≡ s
unfolding key state_by_key
state_found state.Down = refl
state_found state.Init = refl
state_found state.TwoWay = refl
state_found state.ExStart = refl
state_found state.Exchange = refl
state_found state.Loading = refl
state_found state.Full = refl

state_one : (w : Text) (s t : NeighbourState) → IsStateWord w s → IsStateWord w t → s ≡ t
state_one w s t h k = sym (state_found s) ∙ ap (λ text. state_by_key (key text)) (sym h ∙ k) ∙ state_found t

pub states_are_text : (w : Text) (s : NeighbourState) → IsStateWord w s → IsUtf8 w
states_are_text w state.Down is = subst IsUtf8 (sym is) (search rules)
states_are_text w state.Init is = subst IsUtf8 (sym is) (search rules)
states_are_text w state.TwoWay is = subst IsUtf8 (sym is) (search rules)
states_are_text w state.ExStart is = subst IsUtf8 (sym is) (search rules)
states_are_text w state.Exchange is = subst IsUtf8 (sym is) (search rules)
states_are_text w state.Loading is = subst IsUtf8 (sym is) (search rules)
states_are_text w state.Full is = subst IsUtf8 (sym is) (search rules)

-- ---- one thing

arrival_one : (ws : List Text) (m n : Option ℕ) → SpellsArrival ws m → SpellsArrival ws n → m ≡ n
arrival_one (a ∷ []) None None h k = refl
arrival_one (a ∷ b ∷ []) (Some m) (Some n) h k = ap (λ x. Some x) (decimal_one 64 b m n h.1 k.1)
arrival_one (a ∷ []) None (Some n) h k = absurd k
arrival_one (a ∷ b ∷ []) (Some m) None h k = absurd k
arrival_one ws m n h k = absurd h

elected_one : (ws : List Text) (a b : Addr) (x y : Option Addr) → AreElected ws a x → AreElected ws b y → (a ≡ b) × (x ≡ y)
elected_one (v ∷ []) a b None None h k = (address_one v a b h k, refl)
elected_one (v ∷ w ∷ []) a b (Some x) (Some y) h k = (address_one v a b h.0 k.0, ap (λ z. Some z) (address_one w x y h.1 k.1))
elected_one (v ∷ []) a b None (Some y) h k = absurd k
elected_one (v ∷ w ∷ []) a b (Some x) None h k = absurd k
elected_one ws a b x y h k = absurd h

-- values that words spell are one, where each word spells one
pub spelled_one : {A : Type 0} (P : Text → A → Type 0) → ((w : Text) (x y : A) → P w x → P w y → x ≡ y) → (ws : List Text) (xs ys : List A) → AllZip P ws xs
    → AllZip P ws ys → xs ≡ ys
spelled_one P one [] [] [] h k = refl
spelled_one P one (w ∷ ws) (x ∷ xs) (y ∷ ys) h k =
    let first : x ≡ y = one w x y h.0 k.0 in
    let others : xs ≡ ys = spelled_one P one ws xs ys h.1 k.1 in
    cc
spelled_one P one [] (x ∷ xs) ys h k = absurd h
spelled_one P one [] [] (y ∷ ys) h k = absurd k
spelled_one P one (w ∷ ws) [] ys h k = absurd h
spelled_one P one (w ∷ ws) (x ∷ xs) [] h k = absurd k

differ : (w : Text) (ws : List Text) (e f : Expected) → IsExpected (w ∷ ws) e → IsExpected (w ∷ ws) f → (kind_of e ≡ kind_of f → ⊥) → ⊥
differ w ws e f h k not = not (sym (kind_is e w ws h) ∙ kind_is f w ws k)

one_of : (e f : Expected) (ws : List Text) → IsExpected ws e → IsExpected ws f → IsOneExpected e f
unfolding kind_of
one_of (Router r (Neighbour s x)) (Router t (Neighbour u y)) (w ∷ a ∷ b ∷ []) h k =
    let other = router_one b s u h.2 k.2 in let same : x ≡ y = h.3 ∙ sym k.3 in
    (router_one a r t h.1 k.1, cc)
one_of (Router r (Neighbour s x)) (Router t (Neighbour u y)) (w ∷ a ∷ b ∷ c ∷ []) h k =
    let other = router_one b s u h.2 k.2 in let same = state_one c x y h.3 k.3 in
    (router_one a r t h.1 k.1, cc)
one_of (Router r (NoNeighbour m)) (Router s (NoNeighbour n)) (v ∷ w ∷ a ∷ b ∷ []) h k =
    (router_one a r s h.2 k.2, ap NoNeighbour (decimal_one 64 b m n h.3 k.3))
one_of (Router r (Dr m c x)) (Router s (Dr n d y)) (w ∷ a ∷ b ∷ ws) h k =
    let link = decimal_one 64 b m n h.2 k.2 in let both = elected_one ws c d x y h.3 k.3 in
    let dr = both.0 in let backup = both.1 in
    (router_one a r s h.1 k.1, cc)
one_of (Router r (Route p m hs)) (Router s (Route q n ks)) (w ∷ ws) h k =
    let all = route_begins_one ws r s p q m n h.1 k.1 h.2 k.2 in
    let there : AllZip IsHopWord k.1 hs.items = rw all.3 at h.3 in
    (all.0, (all.1, all.2, spelled_one IsHopWord hop_one k.1 hs.items ks.items there k.3))
one_of (Router r (NoRoute p)) (Router s (NoRoute q)) (v ∷ w ∷ a ∷ b ∷ []) h k =
    (router_one a r s h.2 k.2, ap NoRoute (prefix_spelled_one b p q h.3 k.3))
one_of (Router r (NoNeighbour m)) (Router s (NoRoute q)) (v ∷ w ∷ a ∷ b ∷ []) h k = absurd (neighbour_is_not_route w h.1 k.1)
one_of (Router r (NoRoute p)) (Router s (NoNeighbour n)) (v ∷ w ∷ a ∷ b ∷ []) h k = absurd (neighbour_is_not_route w k.1 h.1)
one_of (Walk r x m) (Walk s y n) (w ∷ a ∷ b ∷ ws) h k =
    let one = router_one a r s h.1 k.1 in let two = address_one b x y h.2 k.2 in let three = arrival_one ws m n h.3 k.3 in cc
one_of Agree Agree (w ∷ []) h k = refl
one_of (Headline None) (Headline None) (w ∷ []) h k = refl
one_of (Headline (Some r)) (Headline (Some s)) (w ∷ a ∷ []) h k = ap (λ x. Headline (Some x)) (router_one a r s h.1 k.1)
one_of Settled Settled (w ∷ []) h k = refl
one_of (Router r (Neighbour s x)) (Router t (Neighbour u y)) ws h k = absurd h
one_of (Router r (NoNeighbour m)) (Router s (NoNeighbour n)) ws h k = absurd h
one_of (Router r (Dr m c x)) (Router s (Dr n d y)) ws h k = absurd h
one_of (Router r (Route p m hs)) (Router s (Route q n ks)) ws h k = absurd h
one_of (Router r (NoRoute p)) (Router s (NoRoute q)) ws h k = absurd h
one_of (Router r (NoNeighbour m)) (Router s (NoRoute q)) ws h k = absurd h
one_of (Router r (NoRoute p)) (Router s (NoNeighbour n)) ws h k = absurd h
one_of (Walk r x m) (Walk s y n) ws h k = absurd h
one_of Agree Agree ws h k = absurd h
one_of (Headline None) (Headline (Some s)) (w ∷ []) h k = absurd k
one_of (Headline (Some r)) (Headline None) (w ∷ a ∷ []) h k = absurd k
one_of (Headline None) (Headline j) ws h k = absurd h
one_of (Headline (Some r)) (Headline j) ws h k = absurd h
one_of Settled Settled ws h k = absurd h
one_of e f [] h k = absurd h
one_of (Walk r x m) (Router t (Neighbour u y)) (w ∷ ws) h k = absurd (differ w ws (Walk r x m) (Router t (Neighbour u y)) h k (λ same. omega (arith, same)))
one_of Agree (Router t (Neighbour u y)) (w ∷ ws) h k = absurd (differ w ws Agree (Router t (Neighbour u y)) h k (λ same. omega (arith, same)))
one_of Settled (Router t (Neighbour u y)) (w ∷ ws) h k = absurd (differ w ws Settled (Router t (Neighbour u y)) h k (λ same. omega (arith, same)))
one_of (Headline i) (Router t (Neighbour u y)) (w ∷ ws) h k = absurd (differ w ws (Headline i) (Router t (Neighbour u y)) h k (λ same. omega (arith, same)))
one_of e f (w ∷ ws) h k = absurd (differ w ws e f h k (λ same. omega (arith, same)))

pub expected_one : (ws : List Text) (e f : Expected) → IsExpected ws e → IsExpected ws f → IsOneExpected e f
expected_one ws e f h k = one_of e f ws h k
