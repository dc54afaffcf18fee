use Rattle.std.proofs.Common.{sym, ◌∙◌, subst, refl}
use Rattle.ospf_neighbour.specs.Interface.Election.{IsElectionRound}
use Rattle.ospf_neighbour.proofs.Interface.Choosing.{own_declaration}
use Rattle.ospf_neighbour.proofs.iface.election.elect.Goals as goal

pub returns-then-is_new_role : goal.returns-then-is_new_role
returns-then-is_new_role c =
    let own = c.find_me-own.result in
    let as_it_is = own_declaration c.args.candidates.now c.args.me own c.requires.distinct c.find_me-own.ensures.member c.find_me-own.ensures.me in
    record {
      own = own;
      member = c.find_me-own.ensures.member;
      is_me = c.find_me-own.ensures.me;
      first = c.round-first.result;
      round = subst (λ xs. IsElectionRound xs c.round-first.result) as_it_is c.round-first.ensures;
      again = (rw (sym c.is_new_role.ensures ∙ c.if-is_new_role.true) c.round.ensures);
    }

pub returns-else-is_new_role : goal.returns-else-is_new_role
returns-else-is_new_role c =
    let own = c.find_me-own.result in
    let as_it_is = own_declaration c.args.candidates.now c.args.me own c.requires.distinct c.find_me-own.ensures.member c.find_me-own.ensures.me in
    record {
      own = own;
      member = c.find_me-own.ensures.member;
      is_me = c.find_me-own.ensures.me;
      first = c.round-first.result;
      round = subst (λ xs. IsElectionRound xs c.round-first.result) as_it_is c.round-first.ensures;
      again = (rw (sym c.is_new_role.ensures ∙ c.if-is_new_role.false) refl);
    }
