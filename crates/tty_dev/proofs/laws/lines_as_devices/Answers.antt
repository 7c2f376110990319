use Rattle.tty_dev.proofs.TableLemmas as lemmas
use Rattle.tty_dev.proofs.laws.lines_as_devices.Goals as goal

pub returns-clause-devices : goal.returns-clause-devices
returns-clause-devices c = lemmas.length-devices

pub returns-clause-counts : goal.returns-clause-counts
returns-clause-counts c = lemmas.length-counts

pub returns-clause-boots : goal.returns-clause-boots
returns-clause-boots c = lemmas.length-boots

pub returns-clause-same : goal.returns-clause-same
returns-clause-same c = lemmas.devices_same
