-- A driver that goes on, turn by turn.
use Rattle.std.proofs.Common.{◌≡◌, ◌++◌, ℕ, List, [], ◌∷◌, Option, None, Some, refl, ap, sym, subst, ◌∙◌, append_assoc, ◌+◌, arith}
use Rattle.std.proofs.lemmas.List.{append-nil}
use Rattle.std.specs.List.{cons_option}
use Rattle.ospf_fib.specs.PrefixIndex.Known.{Known, Table}
use Rattle.ospf_area.specs.Outputs.{SentValue}
use Rattle.ospf_router.specs.AreaStep.Step.{Event}
use Rattle.ospf_router.specs.Routers.{RouterValue}
use Rattle.ospf_drive.proofs.Turning.{same_known}
use Rattle.ospf_drive.specs.Drives.{DriverGoesOn, last_told}
use Rattle.ospf_drive.specs.Machines.{Rules}
use Rattle.ospf_drive.specs.Moments.{at, Moment, Done, HasNoEnd, IsChain, event_of, events_of, events_done, left_by, sent_by, table_of, tables_published}
use Rattle.ospf_drive.specs.Traffic.{Heard, Carried, and_goes, ticks_in}
use Rattle.ospf_drive.specs.Traffic.Carried.{Full, Ticks, Untold}
use Rattle.ospf_drive.specs.Turns.{Turns}
use Rattle.ospf_drive.specs.declared.turn.Course.{Course}
use Rattle.ospf_drive.specs.declared.turn.Course.TheVariants.{On}

pub no_end-append : (xs ys : List Heard) → HasNoEnd xs → HasNoEnd ys → HasNoEnd (xs ++ ys)
no_end-append [] ys p q = q
no_end-append (x ∷ xs) ys p q = (p.0, no_end-append xs ys p.1 q)

pub events_of-append : (links : ℕ) (xs ys : List Heard) → events_of links (xs ++ ys) ≡ events_of links xs ++ events_of links ys
events_of-append links [] ys = refl
events_of-append links (x ∷ xs) ys = onto (event_of links x) (events_of-append links xs ys)
  where
    onto : (o : Option Event) → events_of links (xs ++ ys) ≡ events_of links xs ++ events_of links ys
        → cons_option o (events_of links (xs ++ ys)) ≡ cons_option o (events_of links xs) ++ events_of links ys
    onto None rest = rest
    onto (Some e) rest = ap (λ es. e ∷ es) rest

pub events_done-append : (xs ys : List Done) → events_done (xs ++ ys) ≡ events_done xs ++ events_done ys
events_done-append [] ys = refl
events_done-append (x ∷ xs) ys = ap (λ es. x.event ∷ es) (events_done-append xs ys)

pub left_by-append : (r : RouterValue) (xs ys : List Done) → left_by r (xs ++ ys) ≡ left_by (left_by r xs) ys
left_by-append r [] ys = refl
left_by-append r (x ∷ xs) ys = left_by-append x.after xs ys

pub chain-append : (rules : Rules) (r : RouterValue) (xs ys : List Done) → IsChain rules r xs → IsChain rules (left_by r xs) ys → IsChain rules r (xs ++ ys)
chain-append rules r [] ys p q = q
chain-append rules r (x ∷ xs) ys p q = (p.0, chain-append rules x.after xs ys p.1 q)

pub sent_by-append : (xs ys : List Done) → sent_by (xs ++ ys) ≡ sent_by xs ++ sent_by ys
sent_by-append [] ys = refl
sent_by-append (x ∷ xs) ys =
    ap (λ s. x.gives.out.sent ++ s) (sent_by-append xs ys) ∙ sym (append_assoc x.gives.out.sent (sent_by xs) (sent_by ys))

tables_of-append : (xs ys : List Done) → tables_published (xs ++ ys) ≡ tables_published xs ++ tables_published ys
tables_of-append [] ys = refl
tables_of-append (x ∷ xs) ys =
    ap (λ s. table_of x ++ s) (tables_of-append xs ys) ∙ sym (append_assoc (table_of x) (tables_published xs) (tables_published ys))

ticks_in-append : (xs ys : List Heard) → ticks_in (xs ++ ys) ≡ ticks_in xs + ticks_in ys
ticks_in-append [] ys = let none : ticks_in ys ≡ 0 + ticks_in ys = omega arith in none
ticks_in-append (x ∷ xs) ys = let h = ticks_in-append xs ys in omega (arith, h)

pub goes-append : (hs hs' : List Heard) (s s' : List SentValue) (t : Carried) → and_goes hs' s' (and_goes hs s t) ≡ and_goes (hs ++ hs') (s ++ s') t
goes-append hs hs' s s' (Full t) = simp append_assoc
goes-append hs hs' s s' (Ticks n span) =
    let sum : ticks_in (hs ++ hs') ≡ ticks_in hs + ticks_in hs' = ticks_in-append hs hs' in
    let all : (n + ticks_in hs) + ticks_in hs' ≡ n + ticks_in (hs ++ hs') = omega (arith, sum) in
    ap (λ (m : ℕ). Ticks m span) all
goes-append hs hs' s s' Untold = refl

goes-none : (t : Carried) → t ≡ and_goes [] [] t
goes-none (Full t) = simp append-nil
goes-none (Ticks n span) = let none : n ≡ n + 0 = omega arith in ap (λ (m : ℕ). Ticks m span) none
goes-none Untold = refl

-- a writer's known tables, where none was published
none_published : (k k' : Known) (tables : List Table) → k'.fib ≡ k.fib → k'.tables ≡ k.tables ++ tables → None ≡ last_told tables k' → k' ≡ k
none_published k k' [] fib same told =
    same_known k k' fib (same ∙ append-nil k.tables)
none_published k k' (x ∷ xs) fib same told = cc

-- what the last publish told, where the later part published nothing
told-same : (xs ys : List Table) (k k' : Known) → k' ≡ k → None ≡ last_told ys k' → last_told xs k ≡ last_told (xs ++ ys) k'
told-same [] [] k k' e told = refl
told-same [] (y ∷ ys) k k' e told = cc
told-same (x ∷ xs) ys k k' e told = ap (λ v. Some v) (sym e)

-- what the last publish told, where the later part published
told-later : (xs ys : List Table) (k' x : Known) → Some x ≡ last_told ys k' → Some x ≡ last_told (xs ++ ys) k'
told-later [] ys k' x told = told
told-later (z ∷ xs) [] k' x told = cc
told-later (z ∷ xs) (y ∷ ys) k' x told = told

-- it has not begun
pub goes_none : {rules : Rules} {r : RouterValue} {t : Carried} {f : ℕ} {k : Known} → DriverGoesOn rules (at r t f k) (at r t f k) None
goes_none {rules} {r} {t} {f} {k} = record {
  taken = [];
  steps = [];
  no_end = tt;
  events = refl;
  chain = tt;
  router = refl;
  links = refl;
  traffic = goes-none t;
  failed = refl;
  fib = refl;
  tables = sym (append-nil k.tables);
  tells = refl;
}

-- it goes on, and on again
both : {rules : Rules} {a m b : Moment} {told told' : Option Known} (x : DriverGoesOn rules a m told) (y : DriverGoesOn rules m b told') (last : Option Known) → last ≡ last_told (tables_published x.steps ++ tables_published y.steps) b.known → DriverGoesOn rules a b last
both {rules} {a} {m} {b} {told} {told'} x y last tells = record {
  taken = x.taken ++ y.taken;
  steps = x.steps ++ y.steps;
  no_end = no_end-append x.taken y.taken x.no_end y.no_end;
  events =
      events_done-append x.steps y.steps
      ∙ ap (λ es. es ++ events_done y.steps) x.events
      ∙ ap (λ es. events_of a.router.links x.taken ++ es) (y.events ∙ ap (λ n. events_of n y.taken) x.links)
      ∙ sym (events_of-append a.router.links x.taken y.taken);
  chain = chain-append rules a.router x.steps y.steps x.chain (subst (λ r. IsChain rules r y.steps) x.router y.chain);
  router = y.router ∙ ap (λ r. left_by r y.steps) x.router ∙ sym (left_by-append a.router x.steps y.steps);
  links = y.links ∙ x.links;
  traffic =
      y.traffic ∙ ap (and_goes y.taken (sent_by y.steps)) x.traffic
      ∙ goes-append x.taken y.taken (sent_by x.steps) (sent_by y.steps) a.traffic
      ∙ ap (λ s. and_goes (x.taken ++ y.taken) s a.traffic) (sym (sent_by-append x.steps y.steps));
  failed = y.failed ∙ x.failed;
  fib = y.fib ∙ x.fib;
  tables =
      y.tables ∙ ap (λ s. s ++ tables_published y.steps) x.tables
      ∙ append_assoc a.known.tables (tables_published x.steps) (tables_published y.steps)
      ∙ ap (λ s. a.known.tables ++ s) (sym (tables_of-append x.steps y.steps));
  tells = tells ∙ ap (λ s. last_told s b.known) (sym (tables_of-append x.steps y.steps));
}

-- a turn that published nothing
pub goes_on_untold : {rules : Rules} {a m b : Moment} {told : Option Known} → DriverGoesOn rules a m told → DriverGoesOn rules m b None → DriverGoesOn rules a b told
goes_on_untold {rules} {a} {m} {b} {told} x y =
    both x y told (x.tells ∙ told-same (tables_published x.steps) (tables_published y.steps) m.known b.known (none_published m.known b.known (tables_published y.steps) y.fib y.tables y.tells) y.tells)

-- a turn that published
pub goes_on_told : {rules : Rules} {a m b : Moment} {told : Option Known} {last : Known} → DriverGoesOn rules a m told → DriverGoesOn rules m b (Some last) → DriverGoesOn rules a b (Some last)
goes_on_told {rules} {a} {m} {b} {told} {last} x y =
    both x y (Some last) (told-later (tables_published x.steps) (tables_published y.steps) b.known last y.tells)

-- a turn that went on
pub turned_on : {rules : Rules} {a b : Moment} {came : Course} {o told : Option Known} → Turns rules a b came → came ≡ On o → o ≡ told → DriverGoesOn rules a b told
turned_on {rules} {a} {b} {came} {o} {told} turns is told_is =
    subst (λ (v : Course). Turns rules a b v) (is ∙ ap (λ (v : Option Known). On v) told_is) turns
