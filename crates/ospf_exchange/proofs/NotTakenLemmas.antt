-- A Database Description that is not taken.
use Rattle.std.proofs.Common.{◌≡◌, ◌==◌, ◌∙◌, ℕ, suc, arith, ◌&&◌, length, Bool, not, true, false, List, [], ◌∷◌, Ok, Err, refl, sym, ap, if◌then◌else◌}
use Rattle.ospf_base.specs.declared.ids.RouterId.{RouterId}
use Rattle.ospf_lsa.specs.declared.header.LsaHeader.{LsaHeader}
use Rattle.ospf_lsdb.specs.Database.{Held}
use Rattle.ospf_packet.specs.declared.body.Description.{Description}
use Rattle.ospf_neighbour.specs.Neighbour.{NeighbourValue}
use Rattle.ospf_neighbour.specs.declared.neighbour.Exchanging.{Exchanging}
use Rattle.ospf_exchange.specs.Exchange.{after_dd, all_told, dd_answer}
use Rattle.ospf_exchange.specs.Laws.{NotTakenIsUnchanged, is_not_taken}
use Rattle.ospf_exchange.specs.Rules.{all_known, dd_rule, considered, rule_by_fields, skips}
use Rattle.ospf_exchange.proofs.Words.{after_rule, answer_to, rule_with}
use Rattle.ospf_exchange.specs.declared.description.DdAnswer.TheVariants as answer
use Rattle.ospf_exchange.specs.declared.fault.ExchangeFault.TheVariants as fault
use Rattle.ospf_exchange.specs.declared.rule.Local.{Local}
use Rattle.ospf_exchange.specs.declared.rule.DdRule.{DdRule}
use Rattle.ospf_exchange.specs.declared.rule.DdRule.TheVariants.{TooLong, NotTaken, MakesSlave, MakesMaster, PassedOver, Repeats, Mismatch, Next}

taken_is_taken : (b : Bool) → is_not_taken (Ok (if b then answer.Ends else answer.Sends)) ≡ true → ⊥
taken_is_taken true is = cc
taken_is_taken false is = cc

master_is_taken : (b c : Bool) → is_not_taken (if b then Ok (if c then answer.Ends else answer.Sends) else Err fault.Mismatch) ≡ true → ⊥
master_is_taken true c is = taken_is_taken c is
master_is_taken false c is = cc

not_taken_rule : (rule : DdRule) (local : Local) (d : Description) (headers : List LsaHeader) (db : List Held) (n : NeighbourValue)
    → is_not_taken (answer_to rule d headers n.exchanging) ≡ true → after_rule rule local d headers db n ≡ n
not_taken_rule TooLong local d headers db n is = refl
not_taken_rule NotTaken local d headers db n is = refl
not_taken_rule PassedOver local d headers db n is = refl
not_taken_rule Repeats local d headers db n is = refl
not_taken_rule Mismatch local d headers db n is = refl
not_taken_rule MakesSlave local d headers db n is = absurd cc
not_taken_rule MakesMaster local d headers db n is = absurd (master_is_taken (all_known headers) (true && all_told n.exchanging d) is)
not_taken_rule Next local d headers db n is = absurd (taken_is_taken (n.exchanging.is_master && all_told n.exchanging d) is)

-- one that is not taken changes nothing
pub not_taken : NotTakenIsUnchanged
unfolding dd_answer after_dd
not_taken local sender d headers db n is = not_taken_rule (dd_rule local sender d headers n) local d (considered local.passes_over headers) db n is

-- ---- by its rule

end_taken : (b : Bool) → is_not_taken (Ok (if b then answer.Ends else answer.Sends)) ≡ false
end_taken true = refl
end_taken false = refl

master_taken : (b c : Bool) → is_not_taken (if b then Ok (if c then answer.Ends else answer.Sends) else Err fault.Mismatch) ≡ false
master_taken true c = end_taken c
master_taken false c = refl

next_taken : (b : Bool) (d : Description) (headers : List LsaHeader) (x : Exchanging) → is_not_taken (answer_to (if b then Next else Mismatch) d headers x) ≡ false
next_taken true d headers x = end_taken (x.is_master && all_told x d)
next_taken false d headers x = refl

some_header : (n : ℕ) → not (suc n == 0) ≡ true
some_header n = let apart : suc n == 0 ≡ false = grind arith in ap not apart

skipped_rule : (passes_over : Bool) (rule : DdRule) (d : Description) (headers : List LsaHeader) (x : Exchanging) → skips rule headers ≡ is_not_taken (answer_to (rule_with passes_over rule headers) d (considered passes_over headers) x)
skipped_rule passes_over TooLong d headers x = refl
skipped_rule passes_over NotTaken d headers x = refl
skipped_rule passes_over MakesSlave d [] x = refl
skipped_rule passes_over MakesSlave d (h ∷ headers) x = some_header (length headers)
skipped_rule passes_over MakesMaster d headers x = sym (master_taken (all_known (considered passes_over headers)) (true && all_told x d))
skipped_rule passes_over PassedOver d headers x = refl
skipped_rule passes_over Repeats d headers x = refl
skipped_rule passes_over Mismatch d headers x = refl
skipped_rule passes_over Next d headers x = sym (next_taken (all_known (considered passes_over headers)) d (considered passes_over headers) x)

pub skipped : (local : Local) (sender : RouterId) (d : Description) (headers : List LsaHeader) (n : NeighbourValue) (rule : DdRule)
    → rule ≡ rule_by_fields local sender d n.state n.exchanging → skips rule headers ≡ is_not_taken (dd_answer local sender d headers n)
unfolding dd_answer dd_rule
skipped local sender d headers n rule is =
    ap (λ (r : DdRule). skips r headers) is ∙ skipped_rule local.passes_over (rule_by_fields local sender d n.state n.exchanging) d headers n.exchanging
