use Rattle.std.proofs.Common.{◌≡◌, ◌++◌, ◌∷◌, [], ℕ, List, map, ap, subst, sym, ◌∙◌, append_assoc}
use Rattle.std.proofs.lemmas.List.{append-nil}
use Rattle.std.specs.List.{AllByRecursion}
use Rattle.std.specs.Map.{values_of}
use Rattle.ospf_base.specs.Keys.{Precedes}
use Rattle.ospf_base.specs.declared.ids.LsaKey.{LsaKey}
use Rattle.ospf_lsa.specs.Lsa.{key_of}
use Rattle.ospf_lsdb.specs.Database.{Entry, key_at, key_in, listed, listed_of}
use Rattle.ospf_lsdb.specs.declared.dated.Stored.{Stored}
use Rattle.ospf_lsdb.proofs.TimerLemmas.{rising_stored}
use Rattle.ospf_lsdb.proofs.ListingLemmas.{bare, age_among, bare_last, bare_more, bare_all}
use Rattle.ospf_lsdb.proofs.dated.Dated.listing.Goals as goal
use Rattle.ospf_lsdb.proofs.dated.Dated.listing.Goals.{In-Some}

walked : (c : In-Some) → values_of c.self.inside.entries.entries ≡ c.loop-stored.invariant.done ++ c.in-Some.stored.now ∷ c.next.new.self
walked c = c.loop-stored.invariant.walked ∙ ap (λ (t : List Stored). c.loop-stored.invariant.done ++ t) c.in-Some.ensures.steps

pub loop-stored-init : goal.loop-stored-init
loop-stored-init c = record { done = []; walked = sym (c.into_iter-stored-iterator.ensures.into_iter_gives ∙ c.values-stored-items.ensures.rest); listing = c.new-listing.ensures }

pub at-entry-requires : goal.at-entry-requires
at-entry-requires c =
    age_among c.self.inside.clock c.self.inside.entries.entries c.self.invariant.kept.stored c.loop-stored.invariant.done c.in-Some.stored.now c.next.new.self (walked (goal.at.at-entry-requires c).In-Some)

pub add_fresh-requires : goal.add_fresh-requires
add_fresh-requires c =
    let done = c.loop-stored.invariant.done in
    let s = c.in-Some.stored.now in
    let clock = c.self.inside.clock in
    let es = c.self.inside.entries.entries in
    let key : key_at (bare clock s) ≡ key_in c.at-entry.result.contents = ap (λ (e : Entry). key_in e.contents) (sym c.at-entry.ensures) in
    record {
      last = subst (λ (k : LsaKey). AllByRecursion (λ lsa. Precedes (key_of lsa) k) c.loop-stored.listing) key
          (subst (λ (ls : List (List ℕ)). AllByRecursion (λ lsa. Precedes (key_of lsa) (key_at (bare clock s))) ls) (sym c.loop-stored.invariant.listing)
          (bare_last clock c.self.inside.due es (rising_stored clock c.self.inside.due es c.self.invariant.kept.stored c.self.invariant.kept.rising) done s c.next.new.self (walked (goal.at.add_fresh-requires c).In-Some)));
    }

pub loop-stored-preserved : goal.loop-stored-preserved
loop-stored-preserved c =
    let done = c.loop-stored.invariant.done in
    let s = c.in-Some.stored.now in
    let clock = c.self.inside.clock in
    record {
      done = done ++ s ∷ [];
      walked = walked (goal.at.loop-stored-preserved c).In-Some ∙ sym (append_assoc done (s ∷ []) c.next.new.self);
      listing = c.in_ok-add_fresh.ensures.ok
          ∙ ap (λ (ls : List (List ℕ)). ls ++ listed_of c.at-entry.result) c.loop-stored.invariant.listing
          ∙ ap (λ (e : Entry). listed (map (bare clock) done) ++ listed_of e) c.at-entry.ensures
          ∙ sym (bare_more clock done s);
    }

pub returns : goal.returns
returns c =
    let done = c.loop-stored.invariant.done in
    let all : values_of c.self.inside.entries.entries ≡ done = c.loop-stored.invariant.walked ∙ ap (λ (t : List Stored). done ++ t) c.in-None.ensures.steps.0 ∙ append-nil done in
    record {
      ok = c.loop-stored.invariant.listing ∙ bare_all c.self.inside.clock c.self.inside.due c.self.inside.entries.entries done all ∙ ap listed c.self.view_is;
    }
