-- At a tick the acknowledgements that wait go out (RFC 2328, section 13.5).
use Rattle.std.proofs.Common.{◌≡◌, ◌+◌, ◌∷◌, ℕ, zero, suc, Bool, true, false, List, [], Option, None, Some, map, option_map, slice_get, refl, sym, ap, subst, ◌∙◌, arith}
use Rattle.std.specs.List.{Contains}
use Rattle.std.proofs.lemmas.List.Elements.{Contains-append_left, Contains-append_right}
use Rattle.std.proofs.lemmas.Option.{none-some, same_Some}
use Rattle.ospf_adjacency.specs.LinkSteps.Parts.{link_timed}
use Rattle.ospf_adjacency.proofs.LinkSteps.Words.{hello_sent}
use Rattle.ospf_area.proofs.Updates.Words.{copy_flooded_by, flooded_area, noted}
use Rattle.ospf_area.proofs.Words.{flooded_link}
use Rattle.ospf_area.specs.Acting.{InTurn}
use Rattle.ospf_area.specs.Asking.{turned_link}
use Rattle.ospf_area.specs.Flooding.{goes_anywhere}
use Rattle.ospf_area.specs.Outputs.{OutputsValue, SentValue, no_outputs}
use Rattle.ospf_area.specs.Places.{flat_from, map_from}
use Rattle.ospf_area.specs.Sending.{context_of}
use Rattle.ospf_area.specs.State.{AreaValue, LinkValue, database_entry}
use Rattle.ospf_area.specs.Updates.Acks.{delayed_out_on}
use Rattle.ospf_area.specs.Updates.Aging.{SendsCopy, TickAges, copy_flooded, turned_area}
use Rattle.ospf_area.specs.declared.sending.RouterContext.{RouterContext}
use Rattle.ospf_base.specs.Constants.{max_age}
use Rattle.ospf_base.specs.declared.ids.LsaKey.{LsaKey}
use Rattle.ospf_lsa.specs.Header.{header_of}
use Rattle.ospf_lsa.specs.Lsa.{key_of}
use Rattle.ospf_lsdb.specs.Database.{Entry, lsa_of, reached_at}
use Rattle.ospf_router.proofs.AreaStep.LinkFit.{IsAlike, hello_alike}
use Rattle.ospf_router.proofs.AreaStep.StateFacts.{Contains-nil, link-changed}
use Rattle.ospf_router.specs.AreaStep.Ticks.{TakesTick}
use Rattle.ospf_router.specs.Stepped.{acknowledgments_on}

-- ---- links on which the same waits

record WaitAlike (a b : LinkValue) : Type 0 where
  iface : IsAlike a.iface b.iface
  settings : b.settings ≡ a.settings
  delayed : b.delayed ≡ a.delayed

-- the router is the same, and so is what waits on its links
record SameWaiting (s t : AreaValue) : Type 0 where
  router : t.router ≡ s.router
  area : t.area ≡ s.area
  links : (l : ℕ) (a : LinkValue) → slice_get s.links l ≡ Some a → (b : LinkValue) × (slice_get t.links l ≡ Some b) × WaitAlike a b

alike_then : (a b c : LinkValue) → WaitAlike a b → WaitAlike b c → WaitAlike a c
alike_then a b c first next = record {
  iface = record { settings = next.iface.settings ∙ first.iface.settings; state = next.iface.state ∙ first.iface.state };
  settings = next.settings ∙ first.settings;
  delayed = next.delayed ∙ first.delayed;
}

same_then : (s t u : AreaValue) → SameWaiting s t → SameWaiting t u → SameWaiting s u
same_then s t u first next = record {
  router = next.router ∙ first.router;
  area = next.area ∙ first.area;
  links = λ l a at.
      let (b, there, alike) = first.links l a at in
      let (c, then_there, then_alike) = next.links l b there in
      (c, then_there, alike_then a b c alike then_alike);
}

same_alike : (a : LinkValue) → WaitAlike a a
same_alike a = record { iface = record { settings = refl; state = refl }; settings = refl; delayed = refl }

by_links : (s t : AreaValue) → t.router ≡ s.router → t.area ≡ s.area → t.links ≡ s.links → SameWaiting s t
by_links s t router area same = record {
  router = router;
  area = area;
  links = λ l a at. (a, ap (λ links. slice_get links l) same ∙ at, same_alike a);
}

moved : (s t u : AreaValue) → u ≡ t → SameWaiting s t → SameWaiting s u
moved s t u is same = subst (λ (x : AreaValue). SameWaiting s x) (sym is) same

map_at : (f : LinkValue → LinkValue) (xs : List LinkValue) (l : ℕ) (a : LinkValue) → slice_get xs l ≡ Some a → slice_get (map f xs) l ≡ Some (f a)
map_at f [] l a at = absurd (none-some a at)
map_at f (x ∷ xs) zero a at = ap (option_map f) at
map_at f (x ∷ xs) (suc l) a at = map_at f xs l a at

-- each link changes in what does not matter here
by_map : (f : LinkValue → LinkValue) → ((a : LinkValue) → WaitAlike a (f a)) → (s t : AreaValue) → t.router ≡ s.router → t.area ≡ s.area → t.links ≡ map f s.links → SameWaiting s t
by_map f each s t router area links = record {
  router = router;
  area = area;
  links = λ l a at. (f a, ap (λ xs. slice_get xs l) links ∙ map_at f s.links l a at, each a);
}

by_place : (f : ℕ → LinkValue → LinkValue) → ((l : ℕ) (a : LinkValue) → WaitAlike a (f l a)) → (s t : AreaValue) → t.router ≡ s.router → t.area ≡ s.area → t.links ≡ map_from f 0 s.links → SameWaiting s t
by_place f each s t router area links = record {
  router = router;
  area = area;
  links = λ l a at. (f l a, link-changed f s t l links ∙ ap (option_map (f l)) at, each l a);
}

-- ---- ages

flooded_same : (e : Entry) (s : AreaValue) → SameWaiting s (flooded_area (lsa_of e) None s)
flooded_same e s =
    by_place (flooded_link (key_of (lsa_of e)) (header_of (lsa_of e)) None s.tick) (λ l a. record { iface = record { settings = refl; state = refl }; settings = refl; delayed = refl }) s (flooded_area (lsa_of e) None s) refl refl refl

noted_same : (key : LsaKey) (went : Bool) (s t : AreaValue) → SameWaiting s t → SameWaiting s (noted key went t)
noted_same key true s t same = same_then s t (noted key true t) same (by_links t (noted key true t) refl refl refl)
noted_same key false s t same = same

copy_same : (key : LsaKey) (s : AreaValue) → SameWaiting s (copy_flooded key s)
copy_same key s = by (database_entry s key)
  where
    by : (o : Option Entry) → SameWaiting s (copy_flooded_by o key s)
    by None = by_links s s refl refl refl
    by (Some e) = noted_same key (goes_anywhere (key_of (lsa_of e)) (header_of (lsa_of e)) None s.links) s (flooded_area (lsa_of e) None s) (flooded_same e s)

turned_same : (s : AreaValue) → SameWaiting s (turned_area s)
turned_same s = by_map (turned_link (context_of s)) (λ a. record { iface = record { settings = refl; state = refl }; settings = refl; delayed = refl }) s (turned_area s) refl refl refl

copies_same : (keys : List LsaKey) (s : AreaValue) (out out' : OutputsValue) (t : AreaValue) → InTurn SendsCopy keys s out out' t → SameWaiting s t
copies_same [] s out out' t is = by_links s t (ap (λ (x : AreaValue). x.router) is.state) (ap (λ (x : AreaValue). x.area) is.state) (ap (λ (x : AreaValue). x.links) is.state)
copies_same (key ∷ keys) s out out' t (mid, so_far, copy, rest) =
    same_then s mid t
    (moved s (turned_area (copy_flooded key s)) mid copy.state (same_then s (copy_flooded key s) (turned_area (copy_flooded key s)) (copy_same key s) (turned_same (copy_flooded key s))))
    (copies_same keys mid so_far out' t rest)

ages_same : (s : AreaValue) (out out' : OutputsValue) (t : AreaValue) → TickAges s out out' t → SameWaiting s t
ages_same s out out' t is =
    same_then s is.mid t (by_links s is.mid (ap (λ (x : AreaValue). x.router) is.rest) (ap (λ (x : AreaValue). x.area) is.rest) (ap (λ (x : AreaValue). x.links) is.rest))
    (copies_same (reached_at max_age is.mid.database) is.mid out out' t is.sends)

-- up to the acknowledgements of a tick
helloed_same : (s : AreaValue) (out out' : OutputsValue) (t : AreaValue) → (is : TakesTick s out out' t) → SameWaiting s is.helloed
helloed_same s out out' t is =
    let timed : SameWaiting is.aged is.timed =
    by_map link_timed (λ a. record { iface = record { settings = refl; state = refl }; settings = refl; delayed = refl }) is.aged is.timed
    (ap (λ (x : AreaValue). x.router) is.timers) (ap (λ (x : AreaValue). x.area) is.timers) (ap (λ (x : AreaValue). x.links) is.timers) in
    let helloed : SameWaiting is.timed is.helloed =
    by_map hello_sent (λ a. record { iface = hello_alike a.iface; settings = refl; delayed = refl }) is.timed is.helloed
    (ap (λ (x : AreaValue). x.router) is.hellos.state) (ap (λ (x : AreaValue). x.area) is.hellos.state) (ap (λ (x : AreaValue). x.links) is.hellos.state) in
    same_then s is.aged is.helloed (ages_same s out is.aged_out is.aged is.ages) (same_then is.aged is.timed is.helloed timed helloed)

-- ---- what goes out

-- the Acknowledgments of what waits on a link, by what they depend on
alike_out : (own own' : RouterContext) (l : ℕ) (a b : LinkValue) → own'.router ≡ own.router → own'.area ≡ own.area → WaitAlike a b → delayed_out_on own' l b ≡ delayed_out_on own l a
alike_out own own' l a b router area alike =
    ap (λ r. delayed_out_on (record own' { router = r }) l b) router
    ∙ (ap (λ x. delayed_out_on (record own { area = x }) l b) area
    ∙ (ap (λ x. delayed_out_on own l (record b { iface = record b.iface { settings = x } })) alike.iface.settings
    ∙ (ap (λ x. delayed_out_on own l (record b { iface = record b.iface { settings = a.iface.settings; state = x } })) alike.iface.state
    ∙ (ap (λ x. delayed_out_on own l (record a { settings = x; delayed = b.delayed })) alike.settings
    ∙ ap (λ x. delayed_out_on own l (record a { delayed = x })) alike.delayed))))

-- what is sent of one link is sent of all
place_sent : (f : ℕ → LinkValue → List SentValue) (k : ℕ) (xs : List LinkValue) (i n : ℕ) (x : LinkValue) (g : SentValue) → n ≡ k + i → slice_get xs i ≡ Some x → Contains (f n x) g → Contains (flat_from f k xs) g
place_sent f k [] i n x g is at c = absurd (none-some x at)
place_sent f k (y ∷ xs) zero n x g is at c =
    let here : n ≡ k = omega (arith, is) in
    Contains-append_left (f k y) (flat_from f (suc k) xs) g (subst (λ m. Contains (f m y) g) here (subst (λ z. Contains (f n z) g) (sym (same_Some y x at)) c))
place_sent f k (y ∷ xs) (suc i) n x g is at c =
    let there : n ≡ suc k + i = omega (arith, is) in
    Contains-append_right (f k y) (flat_from f (suc k) xs) g (place_sent f (suc k) xs i n x g there at c)

zero_more : (n : ℕ) → n ≡ 0 + n
zero_more n = omega arith

-- what waits before a tick is among what it sends
pub waiting_sent : (s : AreaValue) (out' : OutputsValue) (t : AreaValue) (is : TakesTick s no_outputs out' t) (l : ℕ) (g : SentValue) → Contains (acknowledgments_on s l) g → Contains out'.sent g
waiting_sent s out' t is l g c = by (slice_get s.links l) refl c
  where
    same : SameWaiting s is.helloed
    same = helloed_same s no_outputs out' t is

    -- what is sent until then, and then again
    later : Contains is.acknowledged_out.sent g → Contains out'.sent g
    later c = subst (λ (o : OutputsValue). Contains o.sent g) (sym is.repeats.outputs) (Contains-append_left is.acknowledged_out.sent _ g c)

    by : (o : Option LinkValue) → slice_get s.links l ≡ o → Contains (elim o [ None ↦ [] | Some link ↦ delayed_out_on (context_of s) l link ]) g → Contains out'.sent g
    by None at c = absurd (Contains-nil g c)
    by (Some a) at c =
        let (b, there, alike) = same.links l a at in
        let out_is : delayed_out_on (context_of is.helloed) l b ≡ delayed_out_on (context_of s) l a = alike_out (context_of s) (context_of is.helloed) l a b same.router same.area alike in
        let one : Contains (flat_from (delayed_out_on (context_of is.helloed)) 0 is.helloed.links) g =
        place_sent (delayed_out_on (context_of is.helloed)) 0 is.helloed.links l l b g (zero_more l) there (subst (λ gs. Contains gs g) (sym out_is) c) in
        later (subst (λ (o : OutputsValue). Contains o.sent g) (sym is.acknowledgements.outputs) (Contains-append_right is.helloed_out.sent (flat_from (delayed_out_on (context_of is.helloed)) 0 is.helloed.links) g one))
