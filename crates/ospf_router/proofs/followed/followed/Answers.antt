use Rattle.std.proofs.Common.{◌∙◌, ℕ, List, Option, IfSome, [], ap, subst}
use Rattle.std.specs.List.{All}
use Rattle.ospf_area.specs.Outputs.{OutputsValue}
use Rattle.ospf_base.specs.declared.ids.Instance.{Instance}
use Rattle.ospf_base.specs.declared.ids.LsaKey.{LsaKey}
use Rattle.ospf_base.specs.declared.prefix.Prefix.{Prefix}
use Rattle.ospf_lsa.specs.Lsa.{key_of}
use Rattle.ospf_router.specs.Kept.{IsGrownFrom}
use Rattle.ospf_router.specs.Listings.{AreListedAt, StayListed}
use Rattle.ospf_router.proofs.KeepLemmas.{listing_all, lists_all}
use Rattle.ospf_router.proofs.ServedLemmas.{grown_more}
use Rattle.ospf_router.proofs.SettledLemmas.{all_listed}
use Rattle.ospf_router.proofs.followed.followed.Goals as goal
use Rattle.ospf_router.proofs.followed.followed.Goals.{In-Some-2}
use Rattle.ospf_router.specs.declared.followed.Grown.{Grown}

module _ (c : In-Some-2) where
  from : IsGrownFrom c.args.tree [] c.in-Some-2.grown
  from =
      let mid = c.in-Some.taken in
      grown_more c.args.tree [] mid c.in-Some-2.grown
      (subst (λ (o : Option Grown). IfSome o (λ g. IsGrownFrom c.args.tree [] g)) c.in-Some.is
      (subst (λ (ps : List Prefix). IfSome c.in_ok-taken.field-0 (λ g. IsGrownFrom c.args.tree ps g)) c.new.ensures.items c.in_ok-taken.ensures.grown))
      (subst (λ (o : Option Grown). IfSome o (λ g. IsGrownFrom mid.tree mid.touched.items g)) c.in-Some-2.is c.in_ok-grown.ensures.grown)

  -- of what each key has, all is listed
  all : (key : LsaKey) → AreListedAt c.args.database.now key c.in-Some-2.grown.tree.listing
  all =
      let db = c.args.database.now in
      let out = c.args.out.now in
      let mid = c.in-Some.taken in
      let new = c.in-Some-2.grown in
      let taken_is = c.deref.ensures.value ∙ ap (λ (o : OutputsValue). o.taken) c.out.view_is in
      let issued_is = c.deref-2.ensures.value ∙ ap (λ (o : OutputsValue). o.issued) c.out.view_is in
      let taken = subst (λ (o : Option Grown). IfSome o (λ g. All (λ (i : Instance). AreListedAt db i.key g.tree.listing) c.deref.result.now)) c.in-Some.is c.in_ok-taken.ensures.listed in
      let issued = subst (λ (o : Option Grown). IfSome o (λ g. All (λ (l : List ℕ). AreListedAt db (key_of l) g.tree.listing) c.deref-2.result.now)) c.in-Some-2.is c.in_ok-grown.ensures.listed in
      all_listed out db c.args.tree.listing mid.tree.listing new.tree.listing c.requires
      (subst (λ (is : List Instance). All (λ (i : Instance). AreListedAt db i.key mid.tree.listing) is) taken_is taken)
      (subst (λ (o : Option Grown). IfSome o (λ g. StayListed db c.args.tree.listing g.tree.listing)) c.in-Some.is c.in_ok-taken.ensures.stay)
      (subst (λ (ls : List (List ℕ)). All (λ (l : List ℕ). AreListedAt db (key_of l) new.tree.listing) ls) issued_is issued)
      (subst (λ (o : Option Grown). IfSome o (λ g. StayListed db mid.tree.listing g.tree.listing)) c.in-Some-2.is c.in_ok-grown.ensures.stay)

pub returns-then-lists_as_many-clause-grown : goal.returns-then-lists_as_many-clause-grown
returns-then-lists_as_many-clause-grown c = from (goal.at.returns-then-lists_as_many-clause-grown c).In-Some-2

pub returns-then-lists_as_many-clause-lists : goal.returns-then-lists_as_many-clause-lists
returns-then-lists_as_many-clause-lists c =
    let e = c.lists_as_many.ensures in
    lists_all c.args.database.now c.in-Some-2.grown.tree.listing e.database e.listing (all (goal.at.returns-then-lists_as_many-clause-lists c).In-Some-2) (e.many c.if-lists_as_many.true)

pub returns-then-lists_as_many-clause-listing : goal.returns-then-lists_as_many-clause-listing
returns-then-lists_as_many-clause-listing c =
    let e = c.lists_as_many.ensures in
    listing_all c.args.database.now c.in-Some-2.grown.tree.listing e.database e.listing (all (goal.at.returns-then-lists_as_many-clause-listing c).In-Some-2) (e.many c.if-lists_as_many.true)
