use Rattle.ospf_commands.proofs.Agreed.{agreed_list_one_thing, agreed_list_the_same, agreed_run, agreed_walks_may_arrive}
use Rattle.ospf_commands.proofs.laws.agreement_law.Goals as goal

pub returns : goal.returns
returns c = record {
  some_run = agreed_run;
  one_thing = agreed_list_one_thing;
  the_same = agreed_list_the_same;
  arrive = agreed_walks_may_arrive;
}
