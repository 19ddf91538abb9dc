use Rattle.cca.proofs.exit_after.Goals as goal

pub returns : goal.returns
returns g c = record {
  status = c.run.result;
  runs = record {
    words = c.run.ensures.words;
    not_plain = c.run.ensures.not_plain;
    audit = c.run.ensures.audit;
    award = c.run.ensures.award;
    every_log = c.run.ensures.every_log;
    awarded = c.run.ensures.awarded;
    accepted = c.run.ensures.accepted;
    hands_on = c.run.ensures.hands_on;
    handed_on = c.run.ensures.handed_on;
    complete = c.run.ensures.complete;
    roomy = c.run.ensures.roomy;
    read_fault = c.run.ensures.read_fault;
    write_fault = c.run.ensures.write_fault;
    given = c.run.ensures.given;
    told = c.run.ensures.told;
    loaded = c.run.ensures.loaded;
    seen = c.run.ensures.seen;
    answer = c.run.ensures.answer;
    line = c.run.ensures.line;
    front = c.run.ensures.front;
    kept = c.run.ensures.kept;
    files = c.run.ensures.files;
    loads = c.run.ensures.loads;
    appends = c.run.ensures.appends;
    checked = c.run.ensures.checked;
    check_seen = c.run.ensures.check_seen;
    weigh_checked = c.run.ensures.weigh_checked;
    weigh_check_seen = c.run.ensures.weigh_check_seen;
    place_checked = c.run.ensures.place_checked;
    place_check_seen = c.run.ensures.place_check_seen;
    priced = c.run.ensures.priced;
    weighed = c.run.ensures.weighed;
    placed = c.run.ensures.placed;
    reviewed = c.run.ensures.reviewed;
    knows = c.run.ensures.knows;
    faults = c.run.ensures.faults;
  };
  is = c.exit_of.ensures;
}
