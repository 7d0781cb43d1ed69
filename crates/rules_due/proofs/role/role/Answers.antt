use Rattle.paper_rules.specs.Role.{role_in}
use Rattle.rules_due.proofs.role.role.Goals as goal

pub returns-in-Start : goal.returns-in-Start
unfolding role_in
returns-in-Start c = rw c.in-Start.is c.only.ensures

pub returns-in-Opened : goal.returns-in-Opened
unfolding role_in
returns-in-Opened c = rw c.in-Opened.is c.only-in-Opened.ensures

pub returns-in-InSubentry : goal.returns-in-InSubentry
unfolding role_in
returns-in-InSubentry c = rw c.in-InSubentry.is c.either.ensures

pub returns-in-InBib : goal.returns-in-InBib
unfolding role_in
returns-in-InBib c = rw c.in-InBib.is c.bib_role.ensures

pub returns-in-AfterBib : goal.returns-in-AfterBib
unfolding role_in
returns-in-AfterBib c = rw c.in-AfterBib.is c.either-in-AfterBib.ensures

pub returns-in-InCommon : goal.returns-in-InCommon
unfolding role_in
returns-in-InCommon c = rw c.in-InCommon.is c.table_role.ensures

pub returns-in-AfterCommon : goal.returns-in-AfterCommon
unfolding role_in
returns-in-AfterCommon c = rw c.in-AfterCommon.is c.data_role.ensures

pub returns-in-InData : goal.returns-in-InData
unfolding role_in
returns-in-InData c = rw c.in-InData.is c.table_role-in-InData.ensures

pub returns-in-AfterData : goal.returns-in-AfterData
unfolding role_in
returns-in-AfterData c = rw c.in-AfterData.is c.only-in-AfterData.ensures

pub returns-in-Between : goal.returns-in-Between
unfolding role_in
returns-in-Between c = rw c.in-Between.is c.next_role.ensures

pub returns-in-Done : goal.returns-in-Done
unfolding role_in
returns-in-Done c = rw c.in-Done.is
