-- What a finding about interfaces that do not hear each other says.
use Rattle.std.proofs.Common.{rules, ◌≡◌, ◌&&◌, ◌||◌, ◌==◌, ◌⊎◌, ◌<◌, ℕ, Bool, true, false, not, nat_lt, List, ◌∙◌, ap, sym, subst, refl, inl, inr, arith, filter, Option, Some, None, option_and_then, if◌then◌else◌}
use Rattle.std.proofs.lemmas.Option.{same_Some}
use Rattle.std.specs.List.{Contains, find}
use Rattle.ospf_config.specs.declared.config.Config.{Config}
use Rattle.ospf_plan.specs.declared.ends.LinkEnd.{LinkEnd}
use Rattle.ospf_plan.specs.declared.fault.AreaFault.TheVariants as fault
use Rattle.ospf_plan.specs.declared.finding.Finding.{Finding}
use Rattle.ospf_plan.specs.declared.unheard.Near.{Near}
use Rattle.ospf_plan.specs.Ends.{ends_of, first_at_port, network_key}
use Rattle.ospf_plan.specs.Wires.{is_beside, is_wired, wires_of}
use Rattle.ospf_plan.specs.Unheard.{IsNearOf, are_silent, is_ahead, is_outward, is_plugged, members_in, near_in, to_hear, unheard, unheard_in}
use Rattle.ospf_plan.specs.Laws.{HoldsUnheard, IsAhead, IsUnheard}
use Rattle.ospf_plan.proofs.Words.{RisesBy}
use Rattle.ospf_plan.proofs.Members.{filter_from, filter_to, found_from, some_from, some_to}
use Rattle.ospf_plan.proofs.FindingLemmas.{none_is_some}
use Rattle.ospf_plan.proofs.Order.{ends_rise, finds_first, rising_filter, rising_some}

-- functions that answer alike are one
pub one_function : {X Y : Type 0} (f g : X → Y) → ((x : X) → f x ≡ g x) → f ≡ g
one_function f g same = λ i x. same x i

module _ (n : Near) (o : LinkEnd → Bool) (es : List LinkEnd) (are : IsNearOf n o es) where
  by_flag : (e : LinkEnd) (b : Bool)
      → members_in (if b then n.inward else n.all) (network_key e.address) ≡ filter (λ d. is_beside d e) (if b then filter (λ d. not (o d)) es else es)
  by_flag e true = are.inward_are (network_key e.address)
  by_flag e false = are.all_are (network_key e.address)

  pub near_is : near_in n ≡ to_hear o es
  near_is = one_function (near_in n) (to_hear o es)
      (λ e. ap (λ b. members_in (if b then n.inward else n.all) (network_key e.address)) (are.outward_are e) ∙ by_flag e (o e))

-- ---- earlier interfaces

never : true ≡ false → ⊥
never e = search rules

or_cases : (a b : Bool) → (a || b) ≡ true → (a ≡ true) ⊎ (b ≡ true)
or_cases true b e = inl refl
or_cases false b e = inr e

or_right : (a b : Bool) → b ≡ true → (a || b) ≡ true
or_right true b e = refl
or_right false b e = e

and_cases : (a b : Bool) → (a && b) ≡ true → (a ≡ true) × (b ≡ true)
and_cases true b e = (refl, e)
and_cases false b e = absurd (never (sym e))

below : (n m : ℕ) → nat_lt n m ≡ true → n < m
below n m e = grind (arith, e)

is_below : (n m : ℕ) → n < m → nat_lt n m ≡ true
is_below n m lt = grind (arith, lt)

one_number : (n m : ℕ) → (n == m) ≡ true → n ≡ m
one_number n m e = grind (arith, e)

itself : (n : ℕ) → (n == n) ≡ true
itself n = grind arith

ahead_from : (d e : LinkEnd) → is_ahead d e ≡ true → IsAhead d e
ahead_from d e is = elim (or_cases (nat_lt d.file e.file) ((d.file == e.file) && nat_lt d.link e.link) is) [
  | inl file ↦ inl (below d.file e.file file)
  | inr link ↦ (let (same, before) = and_cases (d.file == e.file) (nat_lt d.link e.link) link in inr (one_number d.file e.file same, below d.link e.link before))
]

ahead_to : (d e : LinkEnd) → IsAhead d e → is_ahead d e ≡ true
ahead_to d e (inl lt) = ap (λ b. b || ((d.file == e.file) && nat_lt d.link e.link)) (is_below d.file e.file lt)
ahead_to d e (inr (same, lt)) =
    or_right (nat_lt d.file e.file) ((d.file == e.file) && nat_lt d.link e.link)
    (ap (λ n. (d.file == n) && nat_lt d.link e.link) (sym same) ∙ ap (λ b. b && nat_lt d.link e.link) (itself d.file) ∙ is_below d.link e.link lt)

ahead_on : (c d e : LinkEnd) → IsAhead c d → IsAhead d e → IsAhead c e
ahead_on c d e (inl a) (inl b) = inl (omega (arith, a, b))
ahead_on c d e (inl a) (inr (same, b)) = inl (omega (arith, a, same))
ahead_on c d e (inr (same, a)) (inl b) = inl (omega (arith, same, b))
ahead_on c d e (inr (same, a)) (inr (alike, b)) = inr (same ∙ alike, omega (arith, a, b))

not_back : (d e : LinkEnd) → IsAhead d e → IsAhead e d → ⊥
not_back d e (inl a) (inl b) = omega (arith, a, b)
not_back d e (inl a) (inr (same, b)) = omega (arith, a, same)
not_back d e (inr (same, a)) (inl b) = omega (arith, same, b)
not_back d e (inr (same, a)) (inr (alike, b)) = omega (arith, a, b)

-- ---- whom an interface has to hear

and_false : (a b : Bool) → b ≡ false → (a && b) ≡ false
and_false true b e = e
and_false false b e = refl

not_false : (a b : Bool) → not a ≡ true → (a && b) ≡ false
not_false true b e = absurd (never (sym e))
not_false false b e = refl

inward_by : (a b : Bool) → b ≡ true → (a && b) ≡ false → not a ≡ true
inward_by true b e h = absurd (never (sym e ∙ h))
inward_by false b e h = refl

abbrev made : LinkEnd → LinkEnd → Finding
made d e = record { fault = fault.Unheard; other = d; here = e }

module _ (o : LinkEnd → Bool) (some : List LinkEnd) (wired : ℕ × ℕ × ℕ → Bool) where
  abbrev near : LinkEnd → List LinkEnd
  near = to_hear o some

  flag_from : (d e : LinkEnd) (b : Bool) → o e ≡ b → Contains (if b then filter (λ x. not (o x)) some else some) d → Contains some d × ((o d && o e) ≡ false)
  flag_from d e true is h = let (at, inward) = filter_from (λ x. not (o x)) some d h in (at, not_false (o d) (o e) inward)
  flag_from d e false is h = (h, and_false (o d) (o e) is)

  flag_to : (d e : LinkEnd) (b : Bool) → o e ≡ b → Contains some d → (o d && o e) ≡ false → Contains (if b then filter (λ x. not (o x)) some else some) d
  flag_to d e true is at hearing = filter_to (λ x. not (o x)) some d at (inward_by (o d) (o e) is hearing)
  flag_to d e false is at hearing = at

  near_from : (d e : LinkEnd) → Contains (near e) d → Contains some d × ((o d && o e) ≡ false) × (is_beside d e ≡ true)
  near_from d e h =
      let (among, beside) = filter_from (λ x. is_beside x e) (if o e then filter (λ x. not (o x)) some else some) d h in
      let (at, hearing) = flag_from d e (o e) refl among in (at, hearing, beside)

  near_to : (d e : LinkEnd) → Contains some d → (o d && o e) ≡ false → is_beside d e ≡ true → Contains (near e) d
  near_to d e at hearing beside =
      filter_to (λ x. is_beside x e) (if o e then filter (λ x. not (o x)) some else some) d (flag_to d e (o e) refl at hearing) beside

  flag_rises : RisesBy IsAhead some → (b : Bool) → RisesBy IsAhead (if b then filter (λ x. not (o x)) some else some)
  flag_rises up true = rising_filter IsAhead (λ x. not (o x)) some up
  flag_rises up false = up

  near_rises : RisesBy IsAhead some → (e : LinkEnd) → RisesBy IsAhead (near e)
  near_rises up e = rising_filter IsAhead (λ x. is_beside x e) (if o e then filter (λ x. not (o x)) some else some) (flag_rises up (o e))

  -- ---- a finding

  says_if : (d e : LinkEnd) (f : Finding) (b : Bool) → is_ahead d e ≡ b → (if b then Some (made d e) else None) ≡ Some f → (is_ahead d e ≡ true) × (made d e ≡ f)
  says_if d e f true ahead is = (ahead, same_Some (made d e) f is)
  says_if d e f false ahead is = absurd (none_is_some f is)

  says_by : (e : LinkEnd) (f : Finding) (r : Option LinkEnd) → find (λ x. are_silent wired x e) (near e) ≡ r
      → option_and_then (λ d. if is_ahead d e then Some (made d e) else None) r ≡ Some f
      → (d : LinkEnd) × (find (λ x. are_silent wired x e) (near e) ≡ Some d) × (is_ahead d e ≡ true) × (made d e ≡ f)
  says_by e f None finds is = absurd (none_is_some f is)
  says_by e f (Some d) finds is = let (ahead, same) = says_if d e f (is_ahead d e) refl is in (d, finds, ahead, same)

  says : (e : LinkEnd) (f : Finding) → unheard near wired e ≡ Some f
      → (d : LinkEnd) × (find (λ x. are_silent wired x e) (near e) ≡ Some d) × (is_ahead d e ≡ true) × (made d e ≡ f)
  says e f is = says_by e f (find (λ x. are_silent wired x e) (near e)) refl is

  says_here : (e : LinkEnd) (f : Finding) → unheard near wired e ≡ Some f → e ≡ f.here
  says_here e f is = let (d, finds, ahead, same) = says e f is in ap (λ (g : Finding). g.here) same

  found_is : (d e : LinkEnd) → find (λ x. are_silent wired x e) (near e) ≡ Some d → IsAhead d e → unheard near wired e ≡ Some (made d e)
  found_is d e finds ahead =
      ap (option_and_then (λ x. if is_ahead x e then Some (made x e) else None)) finds ∙ ap (λ b. if b then Some (made d e) else None) (ahead_to d e ahead)

-- ---- the findings of configurations

module _ (configs : List Config) where
  abbrev ends : List LinkEnd
  ends = ends_of configs

  abbrev some : List LinkEnd
  some = filter (is_plugged (first_at_port ends)) ends

  abbrev out : LinkEnd → Bool
  out = is_outward (first_at_port ends) (wires_of configs)

  abbrev wired : ℕ × ℕ × ℕ → Bool
  wired = is_wired (wires_of configs)

  rises : RisesBy IsAhead some
  rises = rising_filter IsAhead (is_plugged (first_at_port ends)) ends (ends_rise configs)

  -- what is found at an interface, where there is one that it does not hear
  first_of_them : (d e : LinkEnd) → IsUnheard ends (wires_of configs) d e
      → (y : LinkEnd) × (find (λ x. are_silent wired x e) (to_hear out some e) ≡ Some y) × ((y ≡ d) ⊎ IsAhead y d)
  first_of_them d e u =
      finds_first IsAhead (λ x. are_silent wired x e) (to_hear out some e) d (near_rises out some wired rises e)
      (near_to out some wired d e (filter_to (is_plugged (first_at_port ends)) ends d u.other u.plugged_other) u.hearing u.beside) u.silent

  is_unheard : (d e : LinkEnd) → Contains some e → find (λ x. are_silent wired x e) (to_hear out some e) ≡ Some d → IsAhead d e → IsUnheard ends (wires_of configs) d e
  is_unheard d e among finds ahead =
      let (there, silent) = found_from (λ x. are_silent wired x e) (to_hear out some e) d finds in
      let (at, hearing, beside) = near_from out some wired d e there in
      let (in_e, plug_e) = filter_from (is_plugged (first_at_port ends)) ends e among in
      let (in_d, plug_d) = filter_from (is_plugged (first_at_port ends)) ends d at in
      record { here = in_e; other = in_d; plugged_here = plug_e; plugged_other = plug_d; ahead = ahead; beside = beside; hearing = hearing; silent = silent }

  pub unheard_holds : (f : Finding) → Contains (unheard_in ends (wires_of configs)) f → HoldsUnheard ends (wires_of configs) f
  unheard_holds f told =
      let (e, among, is) = some_from (unheard (to_hear out some) wired) some f told in
      let (d, finds, ahead, same) = says out some wired e f is in
      subst (HoldsUnheard ends (wires_of configs)) same (record {
        fault = refl;
        unheard = is_unheard d e among finds (ahead_from d e ahead);
        first = λ g u.
            let (y, y_is, order) = first_of_them g e u in
            subst (λ z. (z ≡ g) ⊎ IsAhead z g) (sym (same_Some d y (sym finds ∙ y_is))) order;
      })

  -- the one that is found is ahead
  found_ahead : (y d e : LinkEnd) → (y ≡ d) ⊎ IsAhead y d → IsAhead d e → IsAhead y e
  found_ahead y d e (inl same) ahead = subst (λ z. IsAhead z e) (sym same) ahead
  found_ahead y d e (inr before) ahead = ahead_on y d e before ahead

  told_with : (y e : LinkEnd) → Contains some e → find (λ x. are_silent wired x e) (to_hear out some e) ≡ Some y → IsAhead y e → Contains (unheard_in ends (wires_of configs)) (made y e)
  told_with y e among finds ahead = some_to (unheard (to_hear out some) wired) some (made y e) e among (found_is out some wired y e finds ahead)

  among_them : (d e : LinkEnd) → IsUnheard ends (wires_of configs) d e → Contains some e
  among_them d e u = filter_to (is_plugged (first_at_port ends)) ends e u.here u.plugged_here

  pub each_told : (d e : LinkEnd) → IsUnheard ends (wires_of configs) d e → (f : Finding) × Contains (unheard_in ends (wires_of configs)) f × (f.here ≡ e)
  each_told d e u =
      let (y, finds, order) = first_of_them d e u in
      (made y e, told_with y e (among_them d e u) finds (found_ahead y d e order u.ahead), refl)

  -- the first of them is the one that is found
  the_first : (f : Finding) (y : LinkEnd) → HoldsUnheard ends (wires_of configs) f → (y ≡ f.other) ⊎ IsAhead y f.other
      → find (λ x. are_silent wired x f.here) (to_hear out some f.here) ≡ Some y → y ≡ f.other
  the_first f y h (inl same) finds = same
  the_first f y h (inr before) finds =
      let u = h.unheard in
      elim (h.first y (is_unheard y f.here (among_them f.other f.here u) finds (ahead_on y f.other f.here before u.ahead)))
      [ inl same ↦ sym same | inr back ↦ absurd (not_back y f.other before back) ]

  pub unheard_told : (f : Finding) → HoldsUnheard ends (wires_of configs) f → Contains (unheard_in ends (wires_of configs)) f
  unheard_told f h =
      let u = h.unheard in
      let (y, finds, order) = first_of_them f.other f.here u in
      let same = the_first f y h order finds in
      let is : made y f.here ≡ f = ap (λ z. made z f.here) same ∙ ap (λ x. record { fault = x; other = f.other; here = f.here }) (sym h.fault) in
      subst (Contains (unheard_in ends (wires_of configs))) is (told_with y f.here (among_them f.other f.here u) finds (found_ahead y f.other f.here order u.ahead))

  pub unheard_rises : RisesBy (λ (f g : Finding). IsAhead f.here g.here) (unheard_in ends (wires_of configs))
  unheard_rises =
      rising_some IsAhead (λ (f g : Finding). IsAhead f.here g.here) (unheard (to_hear out some) wired) some rises
      (λ d e f g ahead is_f is_g.
      subst (λ x. IsAhead f.here x) (says_here out some wired e g is_g) (subst (λ x. IsAhead x e) (says_here out some wired d f is_f) ahead))
