use Rattle.workers.proofs.crew_retrieval.CrewRoom.new.Goals as goal

pub returns : goal.returns
returns g c = record {
  empty = (c.in_ok-seats.ensures.items, c.in_ok-fetchers.ensures.items);
  seats = c.in_ok-seats.ensures.capacity;
  fetchers = c.in_ok-fetchers.ensures.capacity;
}
