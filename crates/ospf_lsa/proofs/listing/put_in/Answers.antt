use Rattle.std.proofs.Common.{◌≡◌, ◌<◌, ℕ, List, length, get_or, ap, subst, sym, ◌∙◌}
use Rattle.ospf_base.specs.declared.ids.LsaKey.{LsaKey}
use Rattle.ospf_lsa.specs.Lsa.{key_of}
use Rattle.ospf_lsa.specs.Listing.{HasKey, IsListing, IsPlace, IsPut}
use Rattle.ospf_lsa.proofs.ListingLemmas.{IsListing-place, no_key_at}
use Rattle.std.specs.List.{insert}
use Rattle.ospf_lsa.proofs.KeyLemmas.{either, err_more, keys_set, ok_more}
use Rattle.ospf_lsa.proofs.PutLemmas.{on_err, put_in_at, put_at, listing_at}
use Rattle.ospf_lsa.proofs.listing.put_in.Goals as goal
use Rattle.ospf_lsa.proofs.listing.put_in.Goals.{In-Ok, In-Err}

place : (c : In-Err) → IsPlace c.args.lsas.now.items (key_of c.args.lsa) c.in-Err.at
place c =
    let key : c.key.result ≡ key_of c.args.lsa = c.key.ensures ∙ ap key_of c.view.ensures.same in
    subst (λ (k : LsaKey). IsPlace c.args.lsas.now.items k c.in-Err.at) key (rw c.deref-2.ensures.value at c.in-Err.ensures.place)

pub returns-in-Err-clause-none : goal.returns-in-Err-clause-none
returns-in-Err-clause-none c =
    let there = place (goal.at.returns-in-Err-clause-none c).In-Err in
    on_err c.insert_at.result (HasKey c.args.lsas.now.items (key_of c.args.lsa) → ⊥) (no_key_at c.args.lsas.now.items (key_of c.args.lsa) c.in-Err.at there)

within : (c : In-Ok) → c.in-Ok.at < length c.args.lsas.now.items
within c = rw c.deref-2.ensures.value at c.in-Ok.ensures.found.0

key : (c : In-Ok) → key_of (get_or c.args.lsas.now.items c.in-Ok.at c.args.lsa) ≡ key_of c.args.lsa
key c =
    rw c.deref-2.ensures.value at (c.in-Ok.ensures.found.1 c.args.lsa) ∙ c.key.ensures ∙ ap key_of c.view.ensures.same

pub returns-in-Ok-clause-ok : goal.returns-in-Ok-clause-ok
returns-in-Ok-clause-ok c =
    let here = (goal.at.returns-in-Ok-clause-ok c).In-Ok in
    put_at c.args.lsas.now.items c.args.lsa c.in-Ok.at c.requires.listing.listing (within here) (key here)

pub returns-in-Ok-clause-listing : goal.returns-in-Ok-clause-listing
returns-in-Ok-clause-listing c =
    let here = (goal.at.returns-in-Ok-clause-listing c).In-Ok in
    record {
      listing = listing_at c.args.lsas.now.items c.args.lsa c.in-Ok.at c.requires.listing.listing (within here) (key here) c.requires.listed;
      keys_are = keys_set c.args.keys.now.items c.args.lsas.now.items c.requires.listing.keys_are c.in-Ok.at c.args.lsa (key here);
    }

pub returns-in-Err-clause-ok : goal.returns-in-Err-clause-ok
returns-in-Err-clause-ok c =
    let there = place (goal.at.returns-in-Err-clause-ok c).In-Err in
    ok_more c.insert_at.result (c.insert_at.new.lsas.items ≡ insert c.args.lsas.now.items c.in-Err.at c.args.lsa) (IsPut c.args.lsa c.args.lsas.now.items c.insert_at.new.lsas.items)
    (λ is. subst (λ (ls : List (List ℕ)). IsPut c.args.lsa c.args.lsas.now.items ls) (sym is) (put_in_at c.args.lsas.now.items c.args.lsa c.in-Err.at c.requires.listing.listing there)) c.insert_at.ensures.ok

pub returns-in-Err-clause-listing : goal.returns-in-Err-clause-listing
returns-in-Err-clause-listing c =
    let there = place (goal.at.returns-in-Err-clause-listing c).In-Err in
    record {
      listing = either c.insert_at.result (IsListing c.insert_at.new.lsas.items)
          (ok_more c.insert_at.result (c.insert_at.new.lsas.items ≡ insert c.args.lsas.now.items c.in-Err.at c.args.lsa) (IsListing c.insert_at.new.lsas.items)
          (λ is. subst (λ (ls : List (List ℕ)). IsListing ls) (sym is) (IsListing-place c.args.lsas.now.items c.args.lsa c.in-Err.at c.requires.listing.listing c.requires.listed there)) c.insert_at.ensures.ok)
          (err_more c.insert_at.result (c.insert_at.new.lsas.items ≡ c.args.lsas.now.items) (IsListing c.insert_at.new.lsas.items)
          (λ is. subst (λ (ls : List (List ℕ)). IsListing ls) (sym is) c.requires.listing.listing) c.insert_at.ensures.err);
      keys_are = c.insert_at.ensures.keys;
    }
