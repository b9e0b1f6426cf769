use Rattle.site_tables.proofs.FirstOfEach.{first_faults_of_hosts}
use Rattle.site_tables.proofs.SiteLaws.{first_faults_of_sites, taken_sites_are_begun}
use Rattle.site_tables.proofs.laws.sites_are_begun_step_by_step.Goals as goal

pub returns : goal.returns
returns c = record { begun = taken_sites_are_begun; hosts = first_faults_of_hosts; refused = first_faults_of_sites }
