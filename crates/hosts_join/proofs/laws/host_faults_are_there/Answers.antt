use Rattle.hosts_join.proofs.HostFaults.{accepted_hosts_are_listed, accepted_users_have_groups, host_faults_are_there, primary_faults_are_there}
use Rattle.hosts_join.proofs.laws.host_faults_are_there.Goals as goal

pub returns : goal.returns
returns c = record {
  hosts = accepted_hosts_are_listed;
  host = host_faults_are_there;
  users = accepted_users_have_groups;
  user = primary_faults_are_there;
}
