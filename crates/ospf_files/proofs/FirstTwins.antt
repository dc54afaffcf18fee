-- Configurations of one Router ID, looked for one by one.
use Rattle.std.proofs.Common.{◌≡◌, ◌∙◌, ◌+◌, ◌<◌, ◌≤◌, ap, arith, eq-eqb, eqb, eqb-true, false, get_or, inl, inr, length, refl, slice_get, Some, subst, sym, true, ℕ, List}
use Rattle.std.proofs.lemmas.Bool.{cases_lt}
use Rattle.std.proofs.lemmas.Option.{get_or_from_slice_get, slice_get_read}
use Rattle.ospf_base.specs.declared.ids.RouterId.{RouterId}
use Rattle.ospf_config.specs.Configs.{ShareRouter}
use Rattle.ospf_config.specs.declared.config.Config.{Config}
use Rattle.ospf_files.specs.Twins.{AreFirstTwins}
use Rattle.ospf_files.specs.declared.files.NamedFile.{NamedFile}
use Rattle.ospf_files.specs.declared.twins.Twins.{Twins}

-- twins at these places
abbrev pub AreTwinsAt : List Config → ℕ → ℕ → Type 0
AreTwinsAt configs earlier later = (twins : ShareRouter configs) × (twins.place ≡ earlier) × (twins.later ≡ later)

one_id : (r s : RouterId) → eqb r.0 s.0 ≡ true → r ≡ s
one_id r s same = let number : r.0 ≡ s.0 = eqb-true r.0 s.0 same in λ i. record { 0 = number i }

-- two whose Router IDs are found to be one
pub twins_at : (configs : List Config) (i j : ℕ) (a b : Config) → i < j → j < length configs → a ≡ get_or configs i a → b ≡ get_or configs j b
    → eqb (get_or configs i a).router_id.0 (get_or configs j b).router_id.0 ≡ true → AreTwinsAt configs i j
twins_at configs i j a b before within at_i at_j found = (
  record {
    place = i;
    later = j;
    before = before;
    one = a;
    other = b;
    at_place = slice_get_read configs (length configs) i a refl (omega (arith, before, within)) at_i;
    at_later = slice_get_read configs (length configs) j b refl within at_j;
    same =
        ap (λ (config : Config). config.router_id) at_i ∙ one_id (get_or configs i a).router_id (get_or configs j b).router_id found
        ∙ sym (ap (λ (config : Config). config.router_id) at_j);
  },
  refl,
  refl,
)

-- two whose Router IDs are found to be two
pub not_here : (configs : List Config) (i j : ℕ) (a b : Config) → eqb (get_or configs i a).router_id.0 (get_or configs j b).router_id.0 ≡ false
    → (twins : ShareRouter configs) → twins.later ≡ j → i ≤ twins.place → i + 1 ≤ twins.place
not_here configs i j a b apart twins later least = elim (cases_lt i twins.place) [
  | inl less ↦ omega (arith, less)
  | inr most ↦
      let same : i ≡ twins.place = omega (arith, least, most) in
      let one : get_or configs i a ≡ twins.one = get_or_from_slice_get configs i twins.one a (subst (λ k. slice_get configs k ≡ Some twins.one) (sym same) twins.at_place) in
      let other : get_or configs j b ≡ twins.other = get_or_from_slice_get configs j twins.other b (subst (λ k. slice_get configs k ≡ Some twins.other) later twins.at_later) in
      let number : (get_or configs i a).router_id.0 ≡ (get_or configs j b).router_id.0 =
      ap (λ (config : Config). config.router_id.0) one ∙ ap (λ (router : RouterId). router.0) twins.same ∙ sym (ap (λ (config : Config). config.router_id.0) other) in
      absurd (cc (apart, eq-eqb _ _ number))
]

-- the first of all
pub first_at : (files : List NamedFile) (configs : List Config) (twins : Twins) (i j : ℕ) (a : Config) → length files ≡ length configs → j < length configs
    → AreTwinsAt configs i j → ((others : ShareRouter configs) → j ≤ others.later) → twins.router ≡ (get_or configs i a).router_id
    → twins.one.now ≡ get_or files i twins.one.now → twins.other.now ≡ get_or files j twins.other.now → AreFirstTwins files configs twins
first_at files configs twins i j a many within found first router at_one at_other =
    let share : ShareRouter configs = found.0 in
    let place : share.place ≡ i = found.1 in
    let later : share.later ≡ j = found.2 in
    let before : share.place < share.later = share.before in
    let one : get_or configs i a ≡ share.one = get_or_from_slice_get configs i share.one a (subst (λ k. slice_get configs k ≡ Some share.one) place share.at_place) in
    record {
      share = share;
      first = λ others. subst (λ k. k ≤ others.later) (sym later) (first others);
      router_is = router ∙ ap (λ (config : Config). config.router_id) one;
      one_at =
          slice_get_read files (length files) share.place twins.one.now refl (omega (arith, before, later, within, many))
          (subst (λ k. twins.one.now ≡ get_or files k twins.one.now) (sym place) at_one);
      other_at =
          slice_get_read files (length files) share.later twins.other.now refl (omega (arith, later, within, many))
          (subst (λ k. twins.other.now ≡ get_or files k twins.other.now) (sym later) at_other);
    }
