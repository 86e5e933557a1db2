use Rattle.tape_world.proofs.Layers.{none, plain_event, map}
use Rattle.tape_world.proofs.RunningOn.{event_at, goes_on, stopped, refused}
use Rattle.tape_world.proofs.RunningInOrder.{some_in_order}
use Rattle.tape_world.proofs.running.run.Goals as goal

pub loop-i-init : goal.loop-i-init
loop-i-init c = none

pub returns-in-Err-clause-impossible : goal.returns-in-Err-clause-impossible
returns-in-Err-clause-impossible c =
    refused c.loop-i.world c.make.new.self (map plain_event c.args.events.now) c.loop-i.i (plain_event c.index-events-i.result) c.make.result c.in-Err.stop
    c.fault_of.result (event_at c.args.events.now c.loop-i.i _ c.index-events-i.result c.loop-i-test.true c.index-events-i.is) c.in-Err.is c.make.ensures
    c.fault_of.ensures

pub loop-i-preserved : goal.loop-i-preserved
loop-i-preserved c =
    goes_on c.args.world.now c.loop-i.world c.make.new.self (map plain_event c.args.events.now) c.loop-i.i (plain_event c.index-events-i.result) c.make.result
    c.in_default.field-0
    (event_at c.args.events.now c.loop-i.i _ c.index-events-i.result c.loop-i-test.true c.index-events-i.is) c.loop-i.invariant c.in_default.is c.make.ensures

pub returns-in-Err-clause-in_order : goal.returns-in-Err-clause-in_order
returns-in-Err-clause-in_order c =
    some_in_order c.faultless.ensures.runs c.args.world.now c.make.new.self (map plain_event c.args.events.now) _
    (stopped c.args.world.now c.loop-i.world c.make.new.self (map plain_event c.args.events.now) c.loop-i.i (plain_event c.index-events-i.result) c.make.result
    c.in-Err.stop c.fault_of.result (event_at c.args.events.now c.loop-i.i _ c.index-events-i.result c.loop-i-test.true c.index-events-i.is)
    c.loop-i.invariant c.in-Err.is c.make.ensures c.fault_of.ensures).made
