-- What is found of each failure, and of all of them.
use Rattle.std.proofs.Common.{◌≡◌, ◌∙◌, ◌+◌, ◌++◌, ◌<◌, ℕ, Global, List, [], ◌∷◌, ap, arith, get_or, length, map, refl, subst, sym, take}
use Rattle.std.specs.List.{All, AllZip, Contains}
use Rattle.std.specs.Prelude.{Err, IfOk, MatchResult, Ok, Vec}
use Rattle.std.specs.declared.alloc.AllocError.{AllocError}
use Rattle.std.specs.declared.result.Result.{Result}
use Rattle.std.proofs.lemmas.List.{take_more}
use Rattle.std.proofs.lemmas.Slice.Zip.{all_zipped_more}
use Rattle.std.proofs.lemmas.List.Elements.{All-cons, All-head, All-nil, All-tail}
use Rattle.ospf_base.specs.declared.ids.RouterId.{RouterId}
use Rattle.ospf_graph.specs.Advertisements.{Advertisement}
use Rattle.ospf_graph.specs.declared.route.Route.{Route}
use Rattle.ospf_harm.specs.Carrier.{together}
use Rattle.ospf_whatif.specs.Effect.{IsEffectIn}
use Rattle.ospf_whatif.specs.Failure.{HasLarge, without_all}
use Rattle.ospf_whatif.specs.declared.effect.RouteChange.{RouteChange}
use Rattle.ospf_harm.specs.declared.carrier.Breakdown.{Breakdown}
use Rattle.ospf_harm.specs.declared.carrier.Carrier.{Carrier}
use Rattle.ospf_harm.specs.declared.carrier.Carrier.TheVariants.{Direct, Process, Switch}
use Rattle.ospf_whatif.specs.declared.failure.AreaFailure.{AreaFailure}
use Rattle.ospf_harm.specs.Together.{IsComputable, IsEffectBy}

-- one of each more
pub zip_more : {X Y : Type 0} (R : X → Y → Type 0) (xs : List X) (i : ℕ) (x : X) (ys : List Y) (y : Y) → i < length xs → x ≡ get_or xs i x → AllZip R (take i xs) ys → R x y
    → AllZip R (take (i + 1) xs) (ys ++ y ∷ [])
zip_more R xs i x ys y lt is zip r = rw (take_more xs i x lt, ← is) (all_zipped_more R (take i xs) ys x y zip r)

-- this holds of what is found, unless memory runs out
abbrev pub IsFound : {B X : Type 0} → (B → X → Type 0) → B → Result X AllocError → Type 0
IsFound R b found = IfOk found (R b)

module _ {B X : Type 0} (R : B → X → Type 0) where
  found_is : (bs : List B) (xs : List X) → AllZip (IsFound R) bs (map Ok xs) → AllZip R bs xs
  found_is [] [] h = tt
  found_is [] (x ∷ xs) h = absurd h
  found_is (b ∷ bs) [] h = absurd h
  found_is (b ∷ bs) (x ∷ xs) h = (h.0, found_is bs xs h.1)

  -- all of them, unless one of those says that memory ran out
  pub all_found : (bs : List B) (rs : List (Result X AllocError)) (found : Result (Vec X Global) AllocError) → AllZip (IsFound R) bs rs
      → MatchResult found (λ xs. (ys : List X) × (rs ≡ map Ok ys) × (xs.items ≡ ys)) (λ e. Contains rs (Err e)) → IfOk found (λ xs. AllZip R bs xs.items)
  all_found bs rs (Ok xs) h m = found_is bs xs.items (subst (AllZip (IsFound R) bs) (m.1 ∙ ap (map Ok) (sym m.2)) h)
  all_found bs rs (Err e) h m = tt

module _ {X : Type 0} (failure_of : X → AreaFailure) (R : Breakdown → X → Type 0) (named : (b : Breakdown) (x : X) → R b x → failure_of x ≡ b.failure) where
  -- they are those of these failures
  pub same_failures : (bs : List Breakdown) (xs : List X) → AllZip R bs xs → map failure_of xs ≡ map (λ b. b.failure) bs
  same_failures [] [] h = refl
  same_failures [] (x ∷ xs) h = absurd h
  same_failures (b ∷ bs) [] h = absurd h
  same_failures (b ∷ bs) (x ∷ xs) h = λ i. named b x h.0 i ∷ same_failures bs xs h.1 i

  -- what holds of all that fails together holds by the failure
  pub all_seen : (P : List AreaFailure → X → Type 0) (parts_of : AreaFailure → List AreaFailure) → ((b : Breakdown) (x : X) → R b x → P b.parts.items x)
      → (bs : List Breakdown) (xs : List X) → All (λ b. b.parts.items ≡ parts_of b.failure) bs → AllZip R bs xs → All (λ x. P (parts_of (failure_of x)) x) xs
  all_seen P parts_of seen [] [] are h = All-nil (λ x. P (parts_of (failure_of x)) x)
  all_seen P parts_of seen [] (x ∷ xs) are h = absurd h
  all_seen P parts_of seen (b ∷ bs) [] are h = absurd h
  all_seen P parts_of seen (b ∷ bs) (x ∷ xs) are h =
      let same = λ (c : Breakdown). c.parts.items ≡ parts_of c.failure in
      All-cons (λ y. P (parts_of (failure_of y)) y) x xs
      (subst (λ (parts : List AreaFailure). P parts x) (All-head same b bs are ∙ ap parts_of (sym (named b x h.0))) (seen b x h.0))
      (all_seen P parts_of seen bs xs (All-tail same b bs are) h.1)

-- ---- what can be calculated

alone_computable : (A : List Advertisement) (b : Breakdown) (f : AreaFailure) → b.parts.items ≡ f ∷ [] → IsComputable A b
alone_computable A b f is more large = let one : length b.parts.items ≡ 1 = ap length is in absurd (omega (arith, more, one))

pub all_computable : (carrier : Carrier) (A : List Advertisement) (single : List AreaFailure) (bs : List Breakdown) → (carrier ≡ Direct → HasLarge A → ⊥)
    → All (λ b. b.parts.items ≡ together carrier single b.failure) bs → All (IsComputable A) bs
all_computable Direct A single bs small are = λ k d lt more. small refl
all_computable Switch A single bs small are = λ k d lt. alone_computable A (get_or bs k d) (get_or bs k d).failure (are k d lt)
all_computable Process A single bs small are = λ k d lt. alone_computable A (get_or bs k d) (get_or bs k d).failure (are k d lt)

-- ---- what all that fails together changes

pub effect_by : (carrier : Carrier) (single : List AreaFailure) (A : List Advertisement) (root : RouterId) (f : AreaFailure) (before : List Route) (effect : List RouteChange)
    → IsEffectIn (without_all (together carrier single f) A) root before effect → IsEffectBy carrier single A root f before effect
effect_by Direct single A root f before effect is = is
effect_by Switch single A root f before effect is = is
effect_by Process single A root f before effect is = is
