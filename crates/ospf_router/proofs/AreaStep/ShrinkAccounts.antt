-- Changes of neighbours that only shrink their lists.
use Rattle.std.proofs.Common.{◌≡◌, ◌⊎◌, inl, inr, ◌==◌, ◌++◌, ℕ, zero, suc, Bool, true, false, cond, not, List, [], ◌∷◌, map, Option, None, Some, refl, sym, ap, subst, ◌∙◌, arith}
use Rattle.std.specs.List.{Contains}
use Rattle.std.specs.Option.{option_map}
use Rattle.std.proofs.lemmas.Bool.{false≢true, eqb-true}
use Rattle.std.proofs.lemmas.List.Elements.{Contains-append_cases}
use Rattle.ospf_base.specs.declared.ids.Instance.{Instance}
use Rattle.ospf_base.specs.declared.ids.LsaKey.{LsaKey}
use Rattle.ospf_base.specs.declared.ids.RouterId.{RouterId}
use Rattle.ospf_lsa.specs.declared.header.LsaHeader.{LsaHeader}
use Rattle.ospf_exchange.specs.Timers.{begins}
use Rattle.ospf_neighbour.specs.Laws.{Waits}
use Rattle.ospf_neighbour.specs.Lists.{is_of_instance, unlisted, resent}
use Rattle.ospf_neighbour.specs.Machine.{is_exchanging, transition}
use Rattle.ospf_neighbour.specs.Neighbour.{NeighbourValue, effected, is_empty}
use Rattle.ospf_neighbour.specs.declared.machine.NbrEvent.TheVariants as event
use Rattle.ospf_neighbour.specs.declared.machine.NeighbourState.{NeighbourState}
use Rattle.ospf_neighbour.specs.declared.machine.NeighbourState.TheVariants as state
use Rattle.ospf_neighbour.proofs.LawLemmas.{takes_one, resend_keeps}
use Rattle.ospf_area.specs.Changes.{neighbour_changed}
use Rattle.ospf_area.specs.Outputs.{OutputsValue}
use Rattle.ospf_area.specs.Places.{map_from}
use Rattle.ospf_area.specs.State.{AreaValue, LinkValue, neighbour, database_entry, kept_number, state_in}
use Rattle.ospf_area.specs.declared.changes.AdjacencyChange.{AdjacencyChange}
use Rattle.ospf_area.specs.declared.changes.AdjacencyChange.TheVariants.{Acknowledges, IsSent, Restarts}
use Rattle.ospf_area.specs.declared.flooding.PacketSource.{PacketSource}
use Rattle.ospf_router.specs.AreaStep.Packets.{Received}
use Rattle.ospf_router.specs.AreaStep.Accounts.{IsAcknowledged}
use Rattle.ospf_router.proofs.AreaStep.Accountable.{IsAccountable, Adjusts-accountable}
use Rattle.ospf_router.proofs.AreaStep.StateFacts.{Contains-nil, neighbour-changed, same_router}
use Rattle.ospf_router.proofs.AreaStep.OfferFacts.{shorter_list}
use Rattle.ospf_router.proofs.AreaStep.QuietAccounts.{OnlySendsKnown, IsNamed, Shrinks-adjusts}
use Rattle.ospf_area.proofs.Words.{changed_link, changed_on, delayed_on, changed_if}

-- ---- one neighbour

-- its lists shrink, and it does not come into Exchange
pub record ShrinksTo (heard : Option Received) (l : ℕ) (n m : NeighbourValue) : Type 0 where
  pub router : m.router ≡ n.router
  pub retransmission : (i : Instance) → Waits m i → Waits n i
  pub requests : (h : LsaHeader) → Contains m.requests h → Contains n.requests h
  pub summary : (h : LsaHeader) → Contains m.summary h → Contains n.summary h
  pub last_dd : (h : LsaHeader) → Contains m.last_dd h → Contains n.last_dd h
  pub leaves : (i : Instance) → Waits n i → Waits m i ⊎ (IsAcknowledged heard l n.router i ⊎ (is_exchanging m.state ≡ false))
  pub enters : is_exchanging m.state ≡ true → is_exchanging n.state ≡ true

pub same-shrinks : (heard : Option Received) (l : ℕ) (n : NeighbourValue) → ShrinksTo heard l n n
same-shrinks heard l n = record { router = refl; retransmission = λ i w. w; requests = λ h c. c; summary = λ h c. c; last_dd = λ h c. c; leaves = λ i w. inl w; enters = λ up. up }

pub cond-shrinks : (heard : Option Received) (l : ℕ) (b : Bool) (n m : NeighbourValue) → (b ≡ true → ShrinksTo heard l n m) → ShrinksTo heard l n (cond b m n)
cond-shrinks heard l true n m of = of refl
cond-shrinks heard l false n m of = same-shrinks heard l n

unlisted-shrinks : (heard : Option Received) (l : ℕ) (i : Instance) (n : NeighbourValue) → IsAcknowledged heard l n.router i → ShrinksTo heard l n (unlisted i n)
unlisted-shrinks heard l i n told = record {
  router = refl;
  retransmission = λ j w. shorter_list (λ x. not (is_of_instance i x)) n.retransmission j w;
  requests = λ h c. c;
  summary = λ h c. c;
  last_dd = λ h c. c;
  leaves = λ j w. elim (takes_one i j n w) [ inl stays ↦ inl stays | inr it ↦ inr (inl (subst (λ j. IsAcknowledged heard l n.router j) (sym it) told)) ];
  enters = λ up. up;
}

resent-shrinks : (heard : Option Received) (l : ℕ) (i : Instance) (tick : ℕ) (n : NeighbourValue) → ShrinksTo heard l n (resent i tick n)
resent-shrinks heard l i tick n = record {
  router = refl;
  retransmission = λ j w. subst (λ is. Contains is j) (resend_keeps i tick n) w;
  requests = λ h c. c;
  summary = λ h c. c;
  last_dd = λ h c. c;
  leaves = λ j w. inl (subst (λ is. Contains is j) (sym (resend_keeps i tick n)) w);
  enters = λ up. up;
}

-- BadLSReq: the lists are empty, or stay as they were (10.3)
restarts-as : (heard : Option Received) (l : ℕ) (n : NeighbourValue) (number tick : ℕ) (s : NeighbourState) → n.state ≡ s → ShrinksTo heard l n (record (effected (transition s event.BadLsReq (is_empty n.requests)) 0 n) { exchanging = begins number tick })
restarts-as heard l n number tick s at = by s at
  where
    same : (s : NeighbourState) → n.state ≡ s → ShrinksTo heard l n (record n { state = s; exchanging = begins number tick })
    same s at = record { router = refl; retransmission = λ i w. w; requests = λ h c. c; summary = λ h c. c; last_dd = λ h c. c; leaves = λ i w. inl w; enters = λ up. ap is_exchanging at ∙ up }

    emptied : ShrinksTo heard l n (record n { state = state.ExStart; summary = []; last_dd = []; requests = []; asked = 0; retransmission = []; exchanging = begins number tick })
    emptied = record { router = refl; retransmission = λ i w. absurd (Contains-nil i w); requests = λ h c. absurd (Contains-nil h c); summary = λ h c. absurd (Contains-nil h c); last_dd = λ h c. absurd (Contains-nil h c); leaves = λ i w. inr (inr refl); enters = λ up. absurd (false≢true up) }

    by : (s : NeighbourState) → n.state ≡ s → ShrinksTo heard l n (record (effected (transition s event.BadLsReq (is_empty n.requests)) 0 n) { exchanging = begins number tick })
    by state.Down at = same state.Down at
    by state.Init at = same state.Init at
    by state.TwoWay at = same state.TwoWay at
    by state.ExStart at = same state.ExStart at
    by state.Exchange at = emptied
    by state.Loading at = emptied
    by state.Full at = emptied

-- what each change asks to be known
abbrev pub IsTold : Option Received → ℕ → NeighbourValue → AdjacencyChange → Type 0
IsTold heard l n (Acknowledges i) = IsAcknowledged heard l n.router i
IsTold heard l n (IsSent i) = Unit {0}
IsTold heard l n (Restarts number) = Unit {0}

pub changed-shrinks : (heard : Option Received) (l : ℕ) (change : AdjacencyChange) (tick : ℕ) (n : NeighbourValue) → IsTold heard l n change → ShrinksTo heard l n (neighbour_changed change tick n)
changed-shrinks heard l (Acknowledges i) tick n told = unlisted-shrinks heard l i n told
changed-shrinks heard l (IsSent i) tick n told = resent-shrinks heard l i tick n
changed-shrinks heard l (Restarts number) tick n told = restarts-as heard l n number tick n.state refl

-- ---- all links

-- neighbours shrink, and what is new among the delayed and the direct acknowledgements is named
pub record ShrinkBy (heard : Option Received) (before : AreaValue) (out : OutputsValue) (f : ℕ → LinkValue → LinkValue) (g : ℕ → NeighbourValue → NeighbourValue) (after : AreaValue) : Type 0 where
  pub links : after.links ≡ map_from f 0 before.links
  pub same_router : after.router ≡ before.router
  pub database : (key : LsaKey) → database_entry after key ≡ database_entry before key
  pub numbering : (key : LsaKey) → kept_number after key ≡ kept_number before key
  pub direct : (h : LsaHeader) → Contains after.direct h → Contains before.direct h ⊎ IsNamed before out h
  pub each : (l : ℕ) (link : LinkValue) → (f l link).neighbours ≡ map (g l) link.neighbours
  pub waiting : (l : ℕ) (link : LinkValue) (h : LsaHeader) → Contains (f l link).delayed h → Contains link.delayed h ⊎ IsNamed before out h
  pub shrinks : (l : ℕ) (n : NeighbourValue) → ShrinksTo heard l n (g l n)

pub Shrinks-accountable : (heard : Option Received) (before : AreaValue) (out : OutputsValue) (after : AreaValue) (f : ℕ → LinkValue → LinkValue) (g : ℕ → NeighbourValue → NeighbourValue) → ShrinkBy heard before out f g after → OnlySendsKnown before out → IsAccountable heard before out after
Shrinks-accountable heard before out after f g s sends =
    Adjusts-accountable heard before out after
    (Shrinks-adjusts heard before out after f g (record {
      links = s.links;
      same_router = s.same_router;
      database = s.database;
      numbering = s.numbering;
      direct = s.direct;
      each = s.each;
      router = λ l n. (s.shrinks l n).router;
      retransmission = λ l n. (s.shrinks l n).retransmission;
      requests = λ l n. (s.shrinks l n).requests;
      summary = λ l n. (s.shrinks l n).summary;
      last_dd = λ l n. (s.shrinks l n).last_dd;
      waiting = s.waiting;
      leaves = λ l n. (s.shrinks l n).leaves;
    }) sends)
    none_enters sends.ended
  where
    none_enters : (l : ℕ) (q : RouterId) → is_exchanging (state_in (neighbour after l q)) ≡ true → is_exchanging (state_in (neighbour before l q)) ≡ true
    none_enters l q up = go (neighbour before l q) (sym (ap (λ o. is_exchanging (state_in o)) (neighbour-changed f g before after s.links s.each (λ l n. (s.shrinks l n).router) l q)) ∙ up)
      where
        go : (o : Option NeighbourValue) → is_exchanging (state_in (option_map (g l) o)) ≡ true → is_exchanging (state_in o) ≡ true
        go None up = up
        go (Some n) up = (s.shrinks l n).enters up

pub map-id : {X : Type 0} (xs : List X) → xs ≡ map (λ x. x) xs
map-id [] = refl
map-id (x ∷ xs) = ap (λ ys. x ∷ ys) (map-id xs)

pub map_from-id : {X : Type 0} (k : ℕ) (xs : List X) → xs ≡ map_from (λ l x. x) k xs
map_from-id k [] = refl
map_from-id k (x ∷ xs) = ap (λ ys. x ∷ ys) (map_from-id (suc k) xs)

-- the change of the origin's neighbour
pub change_of : PacketSource → AdjacencyChange → ℕ → ℕ → NeighbourValue → NeighbourValue
change_of f change tick l n = cond (l == f.link) (changed_if f.router change tick n) n

pub change-each : (f : PacketSource) (change : AdjacencyChange) (tick l : ℕ) (link : LinkValue) → (changed_on f change tick l link).neighbours ≡ map (change_of f change tick l) link.neighbours
unfolding change_of
change-each f change tick l link = go (l == f.link)
  where
    go : (b : Bool) → (cond b (changed_link f.router change tick link) link).neighbours ≡ map (λ n. cond b (changed_if f.router change tick n) n) link.neighbours
    go true = refl
    go false = map-id link.neighbours

pub change-waiting : (f : PacketSource) (change : AdjacencyChange) (tick l : ℕ) (link : LinkValue) → (changed_on f change tick l link).delayed ≡ link.delayed
change-waiting f change tick l link = go (l == f.link)
  where
    go : (b : Bool) → (cond b (changed_link f.router change tick link) link).delayed ≡ link.delayed
    go true = refl
    go false = refl

pub change-shrinks : (heard : Option Received) (f : PacketSource) (change : AdjacencyChange) (tick l : ℕ) (n : NeighbourValue) → (n.router ≡ f.router → IsTold heard f.link n change) → ShrinksTo heard l n (change_of f change tick l n)
unfolding change_of
change-shrinks heard f change tick l n told =
    cond-shrinks heard l (l == f.link) n (changed_if f.router change tick n) (λ here.
    cond-shrinks heard l (n.router.0 == f.router.0) n (neighbour_changed change tick n) (λ this.
    changed-shrinks heard l change tick n (subst (λ k. IsTold heard k n change) (sym (eqb-true l f.link here)) (told (same_router n.router f.router (eqb-true n.router.0 f.router.0 this))))))

-- an acknowledgement that waits
pub delay-each : (number : ℕ) (h : LsaHeader) (l : ℕ) (link : LinkValue) → (delayed_on number h l link).neighbours ≡ map (λ n. n) link.neighbours
delay-each number h l link = go (l == number)
  where
    go : (b : Bool) → (cond b (record link { delayed = link.delayed ++ h ∷ [] }) link).neighbours ≡ map (λ n. n) link.neighbours
    go true = map-id link.neighbours
    go false = map-id link.neighbours

one_of : {X : Type 0} (x y : X) → Contains (x ∷ []) y → y ≡ x
one_of x y (zero, within, is) = sym is
one_of x y (suc k, within, is) = absurd (omega arith)

pub delay-waiting : (number : ℕ) (h : LsaHeader) (l : ℕ) (link : LinkValue) (x : LsaHeader) → Contains (delayed_on number h l link).delayed x → Contains link.delayed x ⊎ (x ≡ h)
delay-waiting number h l link x c = go (l == number) c
  where
    go : (b : Bool) → Contains (cond b (record link { delayed = link.delayed ++ h ∷ [] }) link).delayed x → Contains link.delayed x ⊎ (x ≡ h)
    go true c = elim (Contains-append_cases link.delayed (h ∷ []) x c) [ inl there ↦ inl there | inr new ↦ inr (one_of h x new) ]
    go false c = inl c
