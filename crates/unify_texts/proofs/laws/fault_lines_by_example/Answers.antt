use Rattle.unify_texts.proofs.FaultExamples as told
use Rattle.unify_texts.proofs.laws.fault_lines_by_example.Goals as goal

pub returns : goal.returns
returns c =
    record {
      account_lines = told.account_lines_told;
      inventory_lines = told.inventory_lines_told;
      hosts = told.host_faults_told;
      joining = told.joining_faults_told;
      certificates = told.certificate_faults_told;
      plans = told.plan_faults_told;
      texts = told.text_faults_told;
    }
